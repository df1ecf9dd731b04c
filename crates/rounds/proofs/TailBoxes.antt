-- Boxes that end with bytes of any kind: what is written reads back the same, and a canonical box gives its own bytes.
-- Assumes nothing.
use Rattle.std.specs.Prelude.{Ok}
use mathlib.Core.Path.{◌≡◌, refl, sym, ap, ◌∙◌}
use mathlib.Core.List.{List, ◌++◌}
use Prim.Native.Nat.{ℕ, ◌+◌, ◌-◌, ◌≤◌, ◌<◌}
use lib.ListN.{length, take, drop, length-drop}
use lib.Seq.{sets, take-length}
use Rattle.numbers.specs.declared.Refusal.{Refusal}
use Rattle.put.specs.Put.{wrote}
use Rattle.layout.specs.Read.{read_of, answer, rest_of, zeros}
use Rattle.layout.specs.Write.{write_of}
use Rattle.layout.specs.Canonical.{Canonical, slots, firsts}
use Rattle.layout.specs.declared.Field.{Field}
use Rattle.layout.specs.declared.read.Fields.{Fields}
use Rattle.rounds.proofs.Boxes.{reads-back, own_read, own-bytes, fields_in, same_read, told_from}

to_the_end : (f : Fields) (b : List ℕ) → f.end ≡ length b → rest_of (Ok f) b ≡ drop f.place b
to_the_end f b e = ap (λ n. take n (drop f.place b)) (ap (λ n. n - f.place) e ∙ sym (length-drop f.place b)) ∙ take-length (drop f.place b)

-- what lies behind the fields: it reads back the same, and a canonical box that is written with its own has its own bytes
module _ (kind : ℕ) (fs : List Field) where
  pub rest_back : kind < 4294967296 → (xs tail buf : List ℕ) (n : ℕ) (out : List ℕ) → write_of kind fs xs tail buf ≡ wrote (Ok n) out → rest_of (read_of kind fs (take n out)) (take n out) ≡ tail
  rest_back hk xs tail buf n out w =
      let p = reads-back kind fs xs tail buf n out hk w in
      let g = fields_in (length (take n out)) p.0 (firsts (slots fs) 0 xs) in
      ap (λ f. rest_of f (take n out)) p.1 ∙ to_the_end g (take n out) refl ∙ p.2

  pub rest-own : slots fs ≤ 24 → (b : List ℕ) (k : ℕ) → Canonical kind fs k b → (f : Fields) → read_of kind fs b ≡ Ok f → (ys buf : List ℕ) → firsts (slots fs) 0 ys ≡ firsts (slots fs) 0 f.values → length b ≤ length buf →
      write_of kind fs ys (rest_of (read_of kind fs b) b) buf ≡ wrote (Ok (length b)) (b ++ drop (length b) buf)
  rest-own hs b k c f r ys buf h hl =
      let own : f ≡ fields_in (length b) c.end c.values = same_read f (fields_in (length b) c.end c.values) (sym r ∙ own_read kind fs k b c) in
      ap (λ t. write_of kind fs ys t buf) (ap (λ r. rest_of r b) r ∙ to_the_end f b (ap (λ r. r.end) own)) ∙ own-bytes kind fs k b c f r ys buf hs h hl

module _ {M : Type 0} (from : List ℕ → M) (to : M → List ℕ) (kind : ℕ) (fs : List Field) where
  pub tail-back : kind < 4294967296 → ((m : M) → from (sets (zeros 24) 0 (firsts (slots fs) 0 (to m))) ≡ m) →
      (m : M) (tail buf : List ℕ) (n : ℕ) (out : List ℕ) → write_of kind fs (to m) tail buf ≡ wrote (Ok n) out →
      (answer from (read_of kind fs (take n out)) ≡ Ok m) × (rest_of (read_of kind fs (take n out)) (take n out) ≡ tail)
  tail-back hk ft m tail buf n out w =
      let p = reads-back kind fs (to m) tail buf n out hk w in
      (ap (answer from) p.1 ∙ ap Ok (ft m), rest_back kind fs hk (to m) tail buf n out w)

  pub tail-own : ((vs : List ℕ) → firsts (slots fs) 0 (to (from vs)) ≡ firsts (slots fs) 0 vs) → slots fs ≤ 24 →
      (b : List ℕ) (k : ℕ) → Canonical kind fs k b → (m : M) → answer from (read_of kind fs b) ≡ Ok m → (buf : List ℕ) → length b ≤ length buf →
      write_of kind fs (to m) (rest_of (read_of kind fs b) b) buf ≡ wrote (Ok (length b)) (b ++ drop (length b) buf)
  tail-own tf hs b k c m a buf hl =
      let t = told_from from (read_of kind fs b) m a in
      rest-own kind fs hs b k c t.0 t.1 (to m) buf (ap (λ m. firsts (slots fs) 0 (to m)) (sym t.2) ∙ tf (t.0).values) hl
