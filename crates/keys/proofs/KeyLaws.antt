-- The key of a box that its reader reads is the field of that name in its record. Assumes nothing.
use Rattle.std.specs.Prelude.{Option, Result, Ok, Err, Some, None}
use mathlib.Core.Path.{◌≡◌, refl, ap, ◌∙◌}
use mathlib.Core.List.{List}
use Prim.Native.Nat.{ℕ, suc, ◌≤◌, ◌<◌}
use native.Mathlib.Omega.{arith}
use lib.ListN.{get_or, take}
use Rattle.numbers.specs.Field.{when}
use Rattle.numbers.specs.declared.Refusal.{Refusal}
use Rattle.layout.specs.Rule.{rule_of}
use Rattle.layout.specs.Read.{read_of, answer}
use Rattle.layout.specs.Write.{padded}
use Rattle.layout.specs.Table.{uncut, cut_of, tabled}
use Rattle.layout.specs.Canonical.{slots}
use Rattle.layout.specs.declared.Field.{Field}
use Rattle.layout.specs.declared.read.Fields.{Fields}
use Rattle.places.specs.Kinds as kinds
use Rattle.tkhd.specs.Tkhd as tkhd
use Rattle.tkhd.specs.declared.Tkhd.{Tkhd}
use Rattle.trex.specs.Trex as trex
use Rattle.trex.specs.declared.Trex.{Trex}
use Rattle.tfhd.specs.Tfhd as tfhd
use Rattle.tfhd.specs.declared.Tfhd.{Tfhd}
use Rattle.stsz.specs.Stsz as stsz
use Rattle.stsz.specs.declared.Stsz.{Stsz}
use Rattle.trun.specs.Trun as trun
use Rattle.trun.specs.declared.Trun.{Trun}
use Rattle.url_box.specs.Url as url
use Rattle.url_box.specs.declared.Url.{Url}
use Rattle.keys.specs.Key.{key_at, pick_key, keys, key_of}
use Rattle.keys.proofs.Firsts.{key-begins}

-- the key x of a part, wherever it stands
abbrev pub KeyIs : ℕ → List ℕ → ℕ → Type 0
KeyIs kind part x = (p : ℕ) × (key_of kind part ≡ Some (x, p))

-- from the slots of a box that is read
slot-key : (kind : ℕ) (fs : List Field) (part : List ℕ) (slot : ℕ) → slot < slots (padded (take (suc slot) fs)) → slots (padded (take (suc slot) fs)) ≤ 24 → slots fs ≤ 24 →
    key_of kind part ≡ key_at kind part fs slot → (f : Fields) (x : ℕ) → read_of kind fs part ≡ Ok f → get_or f.values slot 0 ≡ x → KeyIs kind part x
slot-key kind fs part slot some few all e f x r v =
    let k = key-begins kind fs part slot some few all f r in
    (k.0.place, e ∙ k.2 ∙ ap (λ n. Some (n, k.0.place)) v)

-- what a plain box that is read tells of its slots
plain-slots : {M : Type 0} (from : List ℕ → M) (r : Result Fields Refusal) (m : M) → answer from r ≡ Ok m → (f : Fields) × (r ≡ Ok f) × (from f.values ≡ m)
plain-slots from (Ok f) m e = (f, refl, cc e)
plain-slots from (Err q) m e = let z : ◌≡◌ {A = ℕ} 0 1 = cc e in absurd (omega arith)

-- and one with a table
uncut-slots : {M : Type 0} (n m : M) (p at : ℕ) (c : Option ℕ) → uncut {R = M × ℕ} (n, p) c ≡ Ok (m, at) → n ≡ m
uncut-slots {M} n m p at None e = let q : ◌≡◌ {A = M × ℕ} (n, p) (m, at) = cc e in ap (λ (x : M × ℕ). x.0) q
uncut-slots {M} n m p at (Some x) e = let z : ◌≡◌ {A = ℕ} 0 1 = cc e in absurd (omega arith)

table-slots : {M : Type 0} (from : List ℕ → M) (n : M → ℕ) (w : ℕ) (b : List ℕ) (r : Result Fields Refusal) (m : M) (at : ℕ) →
    tabled from n w b r ≡ Ok (m, at) → (f : Fields) × (r ≡ Ok f) × (from f.values ≡ m)
table-slots from n w b (Ok f) m at e = (f, refl, uncut-slots _ _ _ _ (cut_of (n (from f.values)) w (take f.end b) f.place) e)
table-slots from n w b (Err q) m at e = let z : ◌≡◌ {A = ℕ} 0 1 = cc e in absurd (omega arith)

pub tkhd-key : (part : List ℕ) (m : Tkhd) → tkhd.tkhd_of part ≡ Ok m → KeyIs kinds.tkhd part m.track_id
unfolding slots rule_of when pick_key keys
tkhd-key part m e =
    let s = plain-slots tkhd.from (read_of tkhd.kind tkhd.fields part) m e in
    slot-key kinds.tkhd tkhd.fields part 4 (omega arith) (omega arith) (omega arith) refl s.0 _ s.1 (ap (λ m. m.track_id) s.2)

pub trex-key : (part : List ℕ) (m : Trex) → trex.trex_of part ≡ Ok m → KeyIs kinds.trex part m.track_id
unfolding slots rule_of when pick_key keys
trex-key part m e =
    let s = plain-slots trex.from (read_of trex.kind trex.fields part) m e in
    slot-key kinds.trex trex.fields part 2 (omega arith) (omega arith) (omega arith) refl s.0 _ s.1 (ap (λ m. m.track_id) s.2)

pub tfhd-key : (part : List ℕ) (m : Tfhd) → tfhd.tfhd_of part ≡ Ok m → KeyIs kinds.tfhd part m.track_id
unfolding slots rule_of when pick_key keys
tfhd-key part m e =
    let s = plain-slots tfhd.from (read_of tfhd.kind tfhd.fields part) m e in
    slot-key kinds.tfhd tfhd.fields part 2 (omega arith) (omega arith) (omega arith) refl s.0 _ s.1 (ap (λ m. m.track_id) s.2)

pub stsz-key : (part : List ℕ) (m : Stsz) (at : ℕ) → stsz.stsz_of part ≡ Ok (m, at) → KeyIs kinds.stsz part m.count
unfolding slots rule_of when pick_key keys
stsz-key part m at e =
    let s = table-slots stsz.from stsz.cells 4 part (read_of stsz.kind stsz.fields part) m at e in
    slot-key kinds.stsz stsz.fields part 3 (omega arith) (omega arith) (omega arith) refl s.0 _ s.1 (ap (λ m. m.count) s.2)

pub trun-key : (part : List ℕ) (m : Trun) (at : ℕ) → trun.trun_of part ≡ Ok (m, at) → KeyIs kinds.trun part m.sample_count
unfolding slots rule_of when pick_key keys
trun-key part m at e =
    let s = table-slots trun.from trun.cells 4 part (read_of trun.kind trun.fields part) m at e in
    slot-key kinds.trun trun.fields part 2 (omega arith) (omega arith) (omega arith) refl s.0 _ s.1 (ap (λ m. m.sample_count) s.2)

pub url-key : (part : List ℕ) (m : Url) → url.url_of part ≡ Ok m → KeyIs kinds.url part m.flags
unfolding slots rule_of when pick_key keys
url-key part m e =
    let s = plain-slots url.from (read_of url.kind url.fields part) m e in
    slot-key kinds.url url.fields part 1 (omega arith) (omega arith) (omega arith) refl s.0 _ s.1 (ap (λ m. m.flags) s.2)
