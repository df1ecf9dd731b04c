-- The boxes of a sample table that is written are found in it where `boxes_at` says. Assumes nothing.
use Rattle.std.specs.Prelude.{Result, Option, Ok, Err, Some, None}
use Prim.Native.Nat.{ℕ, zero, suc, ◌+◌, ◌-◌, ◌*◌, ◌^◌, ◌≤◌, ◌<◌}
use mathlib.Core.Path.{◌≡◌, refl, sym, ap, ap₂, ◌∙◌}
use mathlib.Core.List.{List, [], ◌++◌, append_assoc, append-nil}
use mathlib.Core.Bool.{Bool, true, false, not}
use native.Mathlib.Omega.{arith}
use lib.ListN.{length, take, length-append}
use lib.Seq.{take-length}
use Rattle.numbers.specs.Number.{bytes}
use Rattle.numbers.specs.Field.{when}
use Rattle.numbers.proofs.Laws.{length-bytes}
use Rattle.numbers.proofs.Chain.{whole, by-true, by-false, is_ne, not-lt, is_lt}
use Rattle.put.specs.Put.{wrote}
use Rattle.boxes.specs.Header.{header, header_of}
use Rattle.layout.specs.Rule.{rule_of}
use Rattle.layout.specs.Read.{read_of, zeros}
use Rattle.layout.specs.Write.{made, lay, encode, place, placed, write_of, full}
use Rattle.layout.specs.Canonical.{slots, firsts}
use Rattle.places.specs.Kinds as kinds
use Rattle.rows.specs.Judge.{settle}
use Rattle.rounds.proofs.Boxes.{reads-back, fields_in}
use Rattle.children.specs.Children as children
use Rattle.children.specs.Children.{Row, end, box, row_of, first_in, whole_in, headed, children_of, inside}
use Rattle.children.proofs.Turns.{enough}
use Rattle.samples.specs.declared.Sample.{Sample}
use Rattle.samples.specs.Records.{records_of}
use Rattle.tables.specs.Samples.{samples_of}
use Rattle.tables.specs.declared.Track.{Track}
use Rattle.merging.proofs.Rows.{All}
use Rattle.columns.specs.Entries.{words_of}
use Rattle.builder.proofs.Back.{Numbered}
use Rattle.builder.proofs.Bytes.{Small}
use Rattle.stbl.specs.Stbl.{track_of}
use Rattle.tableboxes.specs.TableBoxes.{span_by, span_in, span_of, boxes_in, boxes_of}
use Rattle.stbl.specs.declared.Boxes.{Boxes}
use Rattle.sampletable.specs.declared.Table.{Table}
use Rattle.sampletable.specs.declared.Table.TheVariants.{Stts, Ctts, Stsc, Stsz, Offsets, Stss}
use Rattle.sampletable.specs.SampleTable.{wide_in, list_of, kind_of, is_there, head_of, table_of, tables_of, box_of, stbl_of, stbl_in}
use Rattle.sampletable.proofs.Puts.{tables-length}
use Rattle.sampletable.proofs.Whole.{length-stbl}
use Rattle.built.specs.Written.{Stands, Of64}
use Rattle.built.specs.Places.{behind, boxes_at}
use Rattle.built.proofs.Given.{length-words}
use Rattle.built.proofs.Heads.{place-gives}
use Rattle.built.proofs.Judged.{word-is}
use Rattle.built.proofs.Written.{split, stands-right, written-given, written-reads-back}
use Rattle.numbers.specs.declared.Refusal.{Refusal}

-- A HEADER

pub header_at : (s pre post : List ℕ) (kind size at : ℕ) → s ≡ pre ++ (bytes 4 size ++ (bytes 4 kind ++ post)) → at ≡ length pre → Small kind → 8 ≤ size → Small size → at + size ≤ length s
    → header_of s at false ≡ Ok (header kind size 8)
header_at s pre post kind size at e a hk h8 hs room =
    let w₁ = word-is s pre (bytes 4 kind ++ post) size at e a hs in
    let w₂ = word-is s (pre ++ bytes 4 size) post kind (at + 4) (e ∙ sym (append_assoc pre (bytes 4 size) (bytes 4 kind ++ post))) (omega (arith, a, length-append pre (bytes 4 size), length-bytes 4 size)) hk in
    sym
    (whole 4 s at Err _ (Ok (header kind size 8)) size w₁.0 w₁.1
    (is_ne _ _ _ size 1 (λ q. omega arith)
    (is_ne _ _ _ size 0 (λ q. omega arith)
    (not-lt _ _ _ (length s - at) size (omega arith)
    (not-lt _ _ _ size 8 h8 (whole 4 s (at + 4) Err (λ k. Ok (header k size 8)) (Ok (header kind size 8)) kind w₂.0 w₂.1 refl))))))

-- ROWS OF BOXES

next_row : (s : List ℕ) (at fuel kind size : ℕ) → header_of s at false ≡ Ok (header kind size 8) → at < length s → 0 < size → length s - at ≤ fuel → row_of fuel s at ≡ box kind at (row_of fuel s (at + size))
unfolding row_of
next_row s at zero kind size e h z k = absurd (omega arith)
next_row s at (suc f) kind size e h z k =
    sym (is_lt _ _ _ at (length s) h refl) ∙ ap (headed at (row_of f s)) e ∙ ap (box kind at) (enough s f (suc f) (at + size) (omega arith) (omega arith))

no_row : (s : List ℕ) (at fuel : ℕ) → length s ≤ at → row_of fuel s at ≡ end
unfolding row_of
no_row s at zero h = refl
no_row s at (suc f) h = sym (not-lt _ _ _ at (length s) h refl)

abbrev row_if : Bool → ℕ → ℕ → Row → Row
row_if b kind at row = when b (box kind at row) row

kind-small : (t : Table) (wide : Bool) → Small (kind_of t wide)
unfolding kind_of when
kind-small Stts wide = omega arith
kind-small Ctts wide = omega arith
kind-small Stsc wide = omega arith
kind-small Stsz wide = omega arith
kind-small Offsets true = omega arith
kind-small Offsets false = omega arith
kind-small Stss wide = omega arith

module _ (scale : ℕ) (rs : List ℕ) (n : ℕ) (s : List ℕ) (t : Table) (at : ℕ) (x : Stands s at (words_of (table_of t scale rs n))) (fit : length (table_of t scale rs n) * 4 < 2 ^ 32) where
  abbrev ns : List ℕ
  ns = head_of t scale rs n ++ list_of t scale rs n

  abbrev kind : ℕ
  kind = kind_of t (wide_in scale rs n)

  is-box : is_there t rs n ≡ true → table_of t scale rs n ≡ box_of kind ns
  is-box e = sym (by-true (box_of kind ns) [] _ (is_there t rs n) e refl)

  room : at + length (table_of t scale rs n) * 4 ≤ length s
  room = omega (arith, x.place, ap length x.there, length-append x.before (words_of (table_of t scale rs n) ++ x.behind), length-append (words_of (table_of t scale rs n)) x.behind, length-words (table_of t scale rs n))

  table-header : is_there t rs n ≡ true → header_of s at false ≡ Ok (header kind (length (table_of t scale rs n) * 4) 8)
  table-header e =
      let b = is-box e in
      let size : 12 + length ns * 4 ≡ length (table_of t scale rs n) * 4 = omega (arith, ap length b) in
      let tail = bytes 4 0 ++ words_of ns in
      let bytes-are : s ≡ x.before ++ (bytes 4 (length (table_of t scale rs n) * 4) ++ (bytes 4 kind ++ (bytes 4 0 ++ words_of ns ++ x.behind))) =
      x.there ∙ ap (λ (y : List ℕ). x.before ++ (words_of y ++ x.behind)) b
      ∙ ap (λ (y : List ℕ). x.before ++ y) (append_assoc (bytes 4 (12 + length ns * 4)) (bytes 4 kind ++ tail) x.behind ∙ ap (λ (y : List ℕ). bytes 4 (12 + length ns * 4) ++ y) (append_assoc (bytes 4 kind) tail x.behind))
      ∙ ap (λ (m : ℕ). x.before ++ (bytes 4 m ++ (bytes 4 kind ++ (tail ++ x.behind)))) size in
      header_at s x.before (tail ++ x.behind) kind (length (table_of t scale rs n) * 4) at bytes-are x.place (kind-small t (wide_in scale rs n)) (omega (arith, ap length b)) fit room

  table-row : (fuel : ℕ) → length s - at ≤ fuel → row_of fuel s at ≡ row_if (is_there t rs n) kind at (row_of fuel s (behind scale rs n t at))
  table-row fuel k = cases (is_there t rs n) refl
    where
      cases : (b : Bool) → is_there t rs n ≡ b → row_of fuel s at ≡ row_if (is_there t rs n) kind at (row_of fuel s (behind scale rs n t at))
      cases true e =
          let l = ap length (is-box e) in
          next_row s at fuel kind (length (table_of t scale rs n) * 4) (table-header e) (omega (arith, room, l)) (omega (arith, l)) k
          ∙ by-true _ _ _ (is_there t rs n) e refl
      cases false e =
          let none : [] ≡ table_of t scale rs n = by-false (box_of kind ns) [] [] (is_there t rs n) e refl in
          let same : at ≡ behind scale rs n t at = omega (arith, ap length none) in
          ap (row_of fuel s) same ∙ by-false _ _ _ (is_there t rs n) e refl

-- THE BOXES OF A TABLE

-- which are there: ctts by c, co64 for stco by w, stss by y
abbrev row_all : Bool → Bool → Bool → ℕ → ℕ → ℕ → ℕ → ℕ → ℕ → Row
row_all c w y a₁ a₂ a₃ a₄ a₅ a₆ =
    box kinds.stsd 8
    (box kinds.stts a₁ (row_if c kinds.ctts a₂ (box kinds.stsc a₃ (box kinds.stsz a₄ (box (when w kinds.co64 kinds.stco) a₅ (row_if y kinds.stss a₆ end))))))

record Finds (c w y : Bool) (a₁ a₂ a₃ a₄ a₅ a₆ : ℕ) : Type 0 where
  stts : first_in kinds.stts (row_all c w y a₁ a₂ a₃ a₄ a₅ a₆) ≡ when true (Ok (Some a₁)) (Ok None)
  ctts : first_in kinds.ctts (row_all c w y a₁ a₂ a₃ a₄ a₅ a₆) ≡ when c (Ok (Some a₂)) (Ok None)
  stsc : first_in kinds.stsc (row_all c w y a₁ a₂ a₃ a₄ a₅ a₆) ≡ when true (Ok (Some a₃)) (Ok None)
  stsz : first_in kinds.stsz (row_all c w y a₁ a₂ a₃ a₄ a₅ a₆) ≡ when true (Ok (Some a₄)) (Ok None)
  stco : first_in kinds.stco (row_all c w y a₁ a₂ a₃ a₄ a₅ a₆) ≡ when (not w) (Ok (Some a₅)) (Ok None)
  co64 : first_in kinds.co64 (row_all c w y a₁ a₂ a₃ a₄ a₅ a₆) ≡ when w (Ok (Some a₅)) (Ok None)
  stss : first_in kinds.stss (row_all c w y a₁ a₂ a₃ a₄ a₅ a₆) ≡ when y (Ok (Some a₆)) (Ok None)
  fine : whole_in (row_all c w y a₁ a₂ a₃ a₄ a₅ a₆) ≡ (Ok tt)

all_found : (c w y : Bool) (a₁ a₂ a₃ a₄ a₅ a₆ : ℕ) → Finds c w y a₁ a₂ a₃ a₄ a₅ a₆
unfolding first_in whole_in when
all_found true true true a₁ a₂ a₃ a₄ a₅ a₆ = record { stts = refl; ctts = refl; stsc = refl; stsz = refl; stco = refl; co64 = refl; stss = refl; fine = refl }
all_found true true false a₁ a₂ a₃ a₄ a₅ a₆ = record { stts = refl; ctts = refl; stsc = refl; stsz = refl; stco = refl; co64 = refl; stss = refl; fine = refl }
all_found true false true a₁ a₂ a₃ a₄ a₅ a₆ = record { stts = refl; ctts = refl; stsc = refl; stsz = refl; stco = refl; co64 = refl; stss = refl; fine = refl }
all_found true false false a₁ a₂ a₃ a₄ a₅ a₆ = record { stts = refl; ctts = refl; stsc = refl; stsz = refl; stco = refl; co64 = refl; stss = refl; fine = refl }
all_found false true true a₁ a₂ a₃ a₄ a₅ a₆ = record { stts = refl; ctts = refl; stsc = refl; stsz = refl; stco = refl; co64 = refl; stss = refl; fine = refl }
all_found false true false a₁ a₂ a₃ a₄ a₅ a₆ = record { stts = refl; ctts = refl; stsc = refl; stsz = refl; stco = refl; co64 = refl; stss = refl; fine = refl }
all_found false false true a₁ a₂ a₃ a₄ a₅ a₆ = record { stts = refl; ctts = refl; stsc = refl; stsz = refl; stco = refl; co64 = refl; stss = refl; fine = refl }
all_found false false false a₁ a₂ a₃ a₄ a₅ a₆ = record { stts = refl; ctts = refl; stsc = refl; stsz = refl; stco = refl; co64 = refl; stss = refl; fine = refl }

-- the span of the first of a type
span-is : (s : List ℕ) (kind size at h : ℕ) (b : Bool) (r : Row) → children_of kinds.stbl s ≡ r → first_in kind r ≡ when b (Ok (Some at)) (Ok None) → (b ≡ true → header_of s at false ≡ Ok (header h size 8))
    → span_of kind s ≡ when b (Some (at, size)) None
unfolding when
span-is s kind size at h b r e q k = ap (λ (x : Row). span_in s (children.placed (first_in kind x))) e ∙ ap (λ (x : Result (Option ℕ) Refusal). span_in s (children.placed x)) q ∙ cases b k
  where
    cases : (b : Bool) → (b ≡ true → header_of s at false ≡ Ok (header h size 8)) → span_in s (children.placed (when b (Ok (Some at)) (Ok None))) ≡ when b (Some (at, size)) None
    cases true k = ap (span_by at) (k refl)
    cases false k = refl

no_fields : encode children.fields (zeros 24) 0 0 0 ≡ made []
unfolding encode lay rule_of when bytes
no_fields = refl

-- the boxes in a container that is written lie behind its header
children-are : (tail : List ℕ) → length (full kinds.stbl [] tail) < 2 ^ 32 → children_of kinds.stbl (full kinds.stbl [] tail) ≡ row_of (length (full kinds.stbl [] tail) - 8) (full kinds.stbl [] tail) 8
unfolding when
children-are tail h =
    let s = full kinds.stbl [] tail in
    let g = place-gives s (write_of kinds.stbl children.fields (zeros 24) tail s) h (ap (placed kinds.stbl tail s) no_fields) in
    let p = reads-back kinds.stbl children.fields (zeros 24) tail s g.size g.buffer (omega arith) g.done in
    let size = 8 + 0 + length tail in
    let ls : length (full kinds.stbl [] tail) ≡ 8 + length tail =
    omega (arith, length-append (bytes 4 size ++ bytes 4 kinds.stbl ++ []) tail, length-append (bytes 4 size ++ bytes 4 kinds.stbl) [], length-append (bytes 4 size) (bytes 4 kinds.stbl), length-bytes 4 size, length-bytes 4 kinds.stbl) in
    let e : p.0 ≡ 8 = omega (arith, p.3, ap length g.bytes) in
    let r : read_of kinds.stbl children.fields (full kinds.stbl [] tail) ≡ Ok (fields_in (length (full kinds.stbl [] tail)) 8 (firsts (slots children.fields) 0 (zeros 24))) =
    sym (ap (read_of kinds.stbl children.fields) g.bytes) ∙ p.1 ∙ ap₂ (λ (b : List ℕ) (k : ℕ). Ok (fields_in (length b) k (firsts (slots children.fields) 0 (zeros 24)))) g.bytes e in
    ap (inside s) r ∙ ap (λ (b : List ℕ). row_of (length b - 8) b 8) (take-length s)

rows_are : (scale : ℕ) (rs : List ℕ) (n : ℕ) (a₁ a₂ a₃ a₄ a₅ a₆ : ℕ) →
    box kinds.stsd 8 (row_if (is_there Stts rs n) (kind_of Stts (wide_in scale rs n)) a₁ (row_if (is_there Ctts rs n) (kind_of Ctts (wide_in scale rs n)) a₂ (row_if (is_there Stsc rs n) (kind_of Stsc (wide_in scale rs n)) a₃
    (row_if (is_there Stsz rs n) (kind_of Stsz (wide_in scale rs n)) a₄ (row_if (is_there Offsets rs n) (kind_of Offsets (wide_in scale rs n)) a₅ (row_if (is_there Stss rs n) (kind_of Stss (wide_in scale rs n)) a₆ end))))))
    ≡ row_all (is_there Ctts rs n) (wide_in scale rs n) (is_there Stss rs n) a₁ a₂ a₃ a₄ a₅ a₆
unfolding is_there kind_of when
rows_are scale rs n a₁ a₂ a₃ a₄ a₅ a₆ = refl

-- a box is two numbers and what comes behind them
box-first : (s pre b size kind rest more post : List ℕ) → s ≡ pre ++ (b ++ more ++ post) → b ≡ size ++ (kind ++ rest) → s ≡ pre ++ (size ++ (kind ++ (rest ++ more ++ post)))
box-first s pre b size kind rest more post e d =
    e
    ∙ ap (λ (y : List ℕ). pre ++ (y ++ more ++ post)) d
    ∙ ap (λ (y : List ℕ). pre ++ (y ++ post)) (append_assoc size (kind ++ rest) more ∙ ap (λ (y : List ℕ). size ++ y) (append_assoc kind rest more))
    ∙ ap (λ (y : List ℕ). pre ++ y) (append_assoc size (kind ++ (rest ++ more)) post ∙ ap (λ (y : List ℕ). size ++ y) (append_assoc kind (rest ++ more) post))

always-there : (rs : List ℕ) (n : ℕ) → (is_there Stts rs n ≡ true) × (is_there Stsc rs n ≡ true) × (is_there Stsz rs n ≡ true) × (is_there Offsets rs n ≡ true)
unfolding is_there
always-there rs n = (refl, refl, refl, refl)

all-spans : (x₁ x₂ x₃ x₄ x₅ x₆ x₇ y₁ y₂ y₃ y₄ y₅ y₆ y₇ : Option (ℕ × ℕ)) → x₁ ≡ y₁ → x₂ ≡ y₂ → x₃ ≡ y₃ → x₄ ≡ y₄ → x₅ ≡ y₅ → x₆ ≡ y₆ → x₇ ≡ y₇ →
    ◌≡◌ {A = Boxes} (record { stts = x₁; ctts = x₂; stsc = x₃; stsz = x₄; stco = x₅; co64 = x₆; stss = x₇ }) (record { stts = y₁; ctts = y₂; stsc = y₃; stsz = y₄; stco = y₅; co64 = y₆; stss = y₇ })
all-spans x₁ x₂ x₃ x₄ x₅ x₆ x₇ y₁ y₂ y₃ y₄ y₅ y₆ y₇ e₁ e₂ e₃ e₄ e₅ e₆ e₇ = cc

module _ (scale : ℕ) (rs : List ℕ) (n : ℕ) (stsd rest : List ℕ) (d : stsd ≡ bytes 4 (length stsd) ++ (bytes 4 kinds.stsd ++ rest)) (small : length (stbl_of scale rs n stsd) < 2 ^ 32) where
  -- the sample descriptions are a box, and `boxes_at` says where the others are
  pub written-found : boxes_of (stbl_of scale rs n stsd) ≡ Ok (boxes_at 0 scale rs n stsd)
  written-found =
      let s = stbl_of scale rs n stsd in
      let T : Table → List ℕ = λ (t : Table). table_of t scale rs n in
      let ws = words_of (tables_of scale rs n) in
      let size = 8 + 0 + length (stsd ++ ws) in
      let head = bytes 4 size ++ bytes 4 kinds.stbl ++ [] in
      let lh : length (bytes 4 (8 + 0 + length (stsd ++ words_of (tables_of scale rs n))) ++ bytes 4 kinds.stbl ++ []) ≡ 8 =
      length-append (bytes 4 size ++ bytes 4 kinds.stbl) [] ∙ (let z : length (bytes 4 (8 + 0 + length (stsd ++ words_of (tables_of scale rs n))) ++ bytes 4 kinds.stbl) + 0 ≡ 8 = omega (arith, length-append (bytes 4 size) (bytes 4 kinds.stbl), length-bytes 4 size, length-bytes 4 kinds.stbl) in z) in
      let ls : length (stbl_of scale rs n stsd) ≡ 8 + length stsd + length (tables_of scale rs n) * 4 = length-stbl scale rs n stsd in
      let lt = tables-length scale rs n _ _ _ _ _ _ refl refl refl refl refl refl in
      let s₀ : Stands s 0 (head ++ (stsd ++ ws)) = record { before = []; behind = []; there = sym (append-nil s); place = refl } in
      let sd : Stands s 8 (stsd ++ ws) = stands-right s head (stsd ++ ws) 0 8 (omega (arith, lh)) s₀ in
      let a₁ = 0 + (8 + length stsd) in
      let a₂ = behind scale rs n Stts a₁ in
      let a₃ = behind scale rs n Ctts a₂ in
      let a₄ = behind scale rs n Stsc a₃ in
      let a₅ = behind scale rs n Stsz a₄ in
      let a₆ = behind scale rs n Offsets a₅ in
      let x₁ : Stands s a₁ (words_of (tables_of scale rs n)) = stands-right s stsd ws 8 a₁ (omega arith) sd in
      let r₆ = T Stss in
      let r₅ = T Offsets ++ r₆ in
      let r₄ = T Stsz ++ r₅ in
      let r₃ = T Stsc ++ r₄ in
      let r₂ = T Ctts ++ r₃ in
      let y₁ = split s (T Stts) r₂ a₁ x₁ in
      let y₂ = split s (T Ctts) r₃ a₂ y₁.1 in
      let y₃ = split s (T Stsc) r₄ a₃ y₂.1 in
      let y₄ = split s (T Stsz) r₅ a₄ y₃.1 in
      let y₅ = split s (T Offsets) r₆ a₅ y₄.1 in
      let f₁ : length (table_of Stts scale rs n) * 4 < 2 ^ 32 = omega (arith, small, ls, lt) in
      let f₂ : length (table_of Ctts scale rs n) * 4 < 2 ^ 32 = omega (arith, small, ls, lt) in
      let f₃ : length (table_of Stsc scale rs n) * 4 < 2 ^ 32 = omega (arith, small, ls, lt) in
      let f₄ : length (table_of Stsz scale rs n) * 4 < 2 ^ 32 = omega (arith, small, ls, lt) in
      let f₅ : length (table_of Offsets scale rs n) * 4 < 2 ^ 32 = omega (arith, small, ls, lt) in
      let f₆ : length (table_of Stss scale rs n) * 4 < 2 ^ 32 = omega (arith, small, ls, lt) in
      let fuel = length (stbl_of scale rs n stsd) - 8 in
      let ld : length stsd ≡ 8 + length rest = ap length d ∙ (let z : length (bytes 4 (length stsd) ++ (bytes 4 kinds.stsd ++ rest)) ≡ 8 + length rest = omega (arith, length-append (bytes 4 (length stsd)) (bytes 4 kinds.stsd ++ rest), length-append (bytes 4 kinds.stsd) rest, length-bytes 4 (length stsd), length-bytes 4 kinds.stsd) in z) in
      let hd : header_of s 8 false ≡ Ok (header kinds.stsd (length stsd) 8) =
      header_at s sd.before (rest ++ ws ++ sd.behind) kinds.stsd (length stsd) 8
      (box-first s sd.before stsd (bytes 4 (length stsd)) (bytes 4 kinds.stsd) rest ws sd.behind sd.there d)
      sd.place (omega arith) (omega (arith, ld)) (omega (arith, small, ls)) (omega (arith, ls)) in
      let row : children_of kinds.stbl s ≡ row_all (is_there Ctts rs n) (wide_in scale rs n) (is_there Stss rs n) a₁ a₂ a₃ a₄ a₅ a₆ =
      children-are (stsd ++ ws) small
      ∙ next_row s 8 fuel kinds.stsd (length stsd) hd (omega (arith, ls, ld)) (omega (arith, ld)) (omega arith)
      ∙ ap (box kinds.stsd 8)
      (ap (row_of fuel s) (let z : 8 + length stsd ≡ 0 + (8 + length stsd) = omega arith in z)
      ∙ table-row scale rs n s Stts a₁ y₁.0 f₁ fuel (omega arith)
      ∙ ap (row_if (is_there Stts rs n) (kind_of Stts (wide_in scale rs n)) a₁)
      (table-row scale rs n s Ctts a₂ y₂.0 f₂ fuel (omega arith)
      ∙ ap (row_if (is_there Ctts rs n) (kind_of Ctts (wide_in scale rs n)) a₂)
      (table-row scale rs n s Stsc a₃ y₃.0 f₃ fuel (omega arith)
      ∙ ap (row_if (is_there Stsc rs n) (kind_of Stsc (wide_in scale rs n)) a₃)
      (table-row scale rs n s Stsz a₄ y₄.0 f₄ fuel (omega arith)
      ∙ ap (row_if (is_there Stsz rs n) (kind_of Stsz (wide_in scale rs n)) a₄)
      (table-row scale rs n s Offsets a₅ y₅.0 f₅ fuel (omega arith)
      ∙ ap (row_if (is_there Offsets rs n) (kind_of Offsets (wide_in scale rs n)) a₅)
      (table-row scale rs n s Stss a₆ y₅.1 f₆ fuel (omega arith)
      ∙ ap (row_if (is_there Stss rs n) (kind_of Stss (wide_in scale rs n)) a₆) (no_row s (behind scale rs n Stss a₆) fuel (omega (arith, ls, lt)))))))))
      ∙ rows_are scale rs n a₁ a₂ a₃ a₄ a₅ a₆ in
      let q = all_found (is_there Ctts rs n) (wide_in scale rs n) (is_there Stss rs n) a₁ a₂ a₃ a₄ a₅ a₆ in
      let th = always-there rs n in
      let b₁ = span-is s kinds.stts (length (T Stts) * 4) a₁ _ true _ row q.stts (λ z. table-header scale rs n s Stts a₁ y₁.0 f₁ th.0) in
      let b₂ = span-is s kinds.ctts (length (T Ctts) * 4) a₂ _ (is_there Ctts rs n) _ row q.ctts (λ z. table-header scale rs n s Ctts a₂ y₂.0 f₂ z) in
      let b₃ = span-is s kinds.stsc (length (T Stsc) * 4) a₃ _ true _ row q.stsc (λ z. table-header scale rs n s Stsc a₃ y₃.0 f₃ th.1) in
      let b₄ = span-is s kinds.stsz (length (T Stsz) * 4) a₄ _ true _ row q.stsz (λ z. table-header scale rs n s Stsz a₄ y₄.0 f₄ th.2) in
      let b₅ = span-is s kinds.stco (length (T Offsets) * 4) a₅ _ (not (wide_in scale rs n)) _ row q.stco (λ z. table-header scale rs n s Offsets a₅ y₅.0 f₅ th.3) in
      let b₆ = span-is s kinds.co64 (length (T Offsets) * 4) a₅ _ (wide_in scale rs n) _ row q.co64 (λ z. table-header scale rs n s Offsets a₅ y₅.0 f₅ th.3) in
      let b₇ = span-is s kinds.stss (length (T Stss) * 4) a₆ _ (is_there Stss rs n) _ row q.stss (λ z. table-header scale rs n s Stss a₆ y₅.1 f₆ z) in
      let boxes : boxes_in (stbl_of scale rs n stsd) ≡ boxes_at 0 scale rs n stsd = all-spans _ _ _ _ _ _ _ _ _ _ _ _ _ _ b₁ b₂ b₃ b₄ b₅ b₆ b₇ in
      ap (settle (Ok (boxes_in s)) Err) (ap whole_in row ∙ q.fine) ∙ ap Ok boxes

-- The theorem of the sample table's writer, by what it wrote alone: for every list of samples, numbered from 1 and each at
-- the sum of the durations before it, that the writer does not refuse, and sample descriptions that are a box: the boxes
-- are found in what it wrote, a track is read from them, and that track lists exactly these samples.
module _ (l : List Sample) (w : All Of64 l) (m : Numbered 0 0 l) (scale : ℕ) (stsd rest o out : List ℕ) (k : ℕ) where
  pub table-reads-back : stsd ≡ bytes 4 (length stsd) ++ (bytes 4 kinds.stsd ++ rest) → stbl_in scale (records_of l) (length l) stsd o ≡ wrote (Ok k) out
      → (b : Boxes) × (t : Track) × (boxes_of (take k out) ≡ Ok b) × (track_of (take k out) b ≡ Ok t) × (samples_of (take k out) t ≡ l)
  table-reads-back d e =
      let x = written-given scale (records_of l) (length l) stsd o out k e in
      let f = take k out in
      let h : length (take k out) < 2 ^ 64 = omega (arith, ap length x.bytes, x.small) in
      let s : Stands f 0 f = record { before = []; behind = []; there = sym (append-nil f); place = refl } in
      let r = written-reads-back f h l w m scale stsd o out k 0 e s in
      let b = boxes_at 0 scale (records_of l) (length l) stsd in
      (b, r.0, ap boxes_of x.bytes ∙ written-found scale (records_of l) (length l) stsd rest d x.small, r.1, r.2)
