-- Canonical, decided: the function says what the statement says, and whatever is written is canonical. Assumes nothing.
use Rattle.std.specs.Prelude.{Result, Ok}
use mathlib.Core.Path.{◌≡◌, refl, sym, ap, ap₂, ◌∙◌, subst}
use mathlib.Core.List.{List, [], ◌∷◌, ◌++◌, append_assoc}
use mathlib.Core.Bool.{Bool, true, false}
use Prim.Native.Nat.{ℕ, ◌+◌, ◌≤◌, ◌<◌}
use native.Mathlib.Nat.{mod-eq_of_lt}
use native.Mathlib.Omega.{arith}
use lib.ListN.{length, get_or, take, length-append}
use lib.Dec.{ltb, eqb}
use borrow.Author.Tests.{le-ltb, leb-true, eqb-true, eq-eqb}
use Rattle.numbers.specs.Number.{be, bytes}
use Rattle.numbers.specs.Field.{when, field, fits}
use Rattle.numbers.proofs.Laws.{Bytes, be-bytes, length-bytes}
use Rattle.numbers.proofs.Chain.{whole, is_eq, by-true}
use Rattle.put.specs.Put.{wrote}
use Rattle.layout.specs.Rule.{rule_of}
use Rattle.layout.specs.Read.{Got, got, fault, decode}
use Rattle.layout.specs.Write.{made, encode, write_of}
use Rattle.layout.specs.Canonical.{standard, followed, exact, canonical_of, ours, Canonical}
use Rattle.layout.specs.declared.Field.{Field}
use Rattle.layout.specs.declared.rule.Rule.{Rule}
use Rattle.layout.proofs.Cases.{range}
use Rattle.layout.proofs.Exact.{exact-step}
use Rattle.rounds.proofs.Round.{lay-made}
use Rattle.layout.specs.Table.{write_table}
use Rattle.rows.specs.Judge.{write_judged}
use Rattle.rounds.proofs.TableBoxes.{as_many}
use Rattle.rounds.proofs.JudgedBoxes.{sound}
use Rattle.rounds.proofs.Boxes.{joined, are-bytes, written-box}
use Rattle.numbers.specs.declared.Refusal.{Refusal}

both : (t x : Bool) → when t x false ≡ true → (t ≡ true) × (x ≡ true)
unfolding when
both true x e = (refl, e)
both false x e = let z : ◌≡◌ {A = ℕ} 0 1 = cc in absurd (omega arith)

field-true : (w : ℕ) (s : List ℕ) (at : ℕ) (go : ℕ → Bool) → field (λ q. false) w s at go ≡ true → (at + w ≤ length s) × (go (be w s at) ≡ true)
unfolding field
field-true w s at go e =
    let p = both (fits w s at) (go (be w s at)) e in
    (leb-true (at + w) (length s) p.0, p.1)

followed-true : (n : ℕ) (b : List ℕ) (g : Got) → followed n b g ≡ true → (vs : List ℕ) × (e : ℕ) × (g ≡ got vs e) × (e + n ≡ length b)
followed-true n b (got vs e) h = (vs, e, refl, eqb-true (e + n) (length b) h)
followed-true n b (fault q) h = let z : ◌≡◌ {A = ℕ} 0 1 = cc in absurd (omega arith)

module _ (kind : ℕ) (fs : List Field) (n : ℕ) (b : List ℕ) where
  -- THE FUNCTION DECIDES IT: what it says yes to is canonical, and the other way round
  pub decided : canonical_of kind fs n b ≡ true → Bytes b → Canonical kind fs n b
  unfolding exact
  decided h byte =
      let s = field-true 4 b 0 (λ size. when (eqb size (length b)) (field (λ q. false) 4 b 4 (λ type. when (eqb type kind) (exact fs n b 8 0 0) false)) false) h in
      let p = both (eqb (be 4 b 0) (length b)) (field (λ q. false) 4 b 4 (λ type. when (eqb type kind) (exact fs n b 8 0 0) false)) s.1 in
      let t = field-true 4 b 4 (λ type. when (eqb type kind) (exact fs n b 8 0 0) false) p.1 in
      let k = both (eqb (be 4 b 4) kind) (exact fs n b 8 0 0) t.1 in
      let o = both (standard fs b 8 0 0) (followed n b (decode fs b 8 0 0)) k.1 in
      let g = followed-true n b (decode fs b 8 0 0) o.1 in
      record {
        byte = byte;
        size = eqb-true (be 4 b 0) (length b) p.0;
        type = eqb-true (be 4 b 4) kind k.0;
        long = t.0;
        values = g.0;
        end = g.1;
        fields = g.2;
        reserved = o.0;
        rest = g.3;
      }

  pub yes-canonical : 8 ≤ length b → be 4 b 0 ≡ length b → be 4 b 4 ≡ kind → true ≡ exact fs n b 8 0 0 → canonical_of kind fs n b ≡ true
  yes-canonical long size type f =
      sym (whole 4 b 0 (λ q. false) _ true (be 4 b 0) (omega (arith, long)) refl
      (is_eq _ _ _ (be 4 b 0) (length b) size
      (whole 4 b 4 (λ q. false) _ true (be 4 b 4) long refl
      (is_eq _ _ _ (be 4 b 4) kind type f))))

  pub told-canonical : Canonical kind fs n b → canonical_of kind fs n b ≡ true
  unfolding exact
  told-canonical c =
      yes-canonical c.long c.size c.type
      (by-true _ _ _ (standard fs b 8 0 0) c.reserved (sym (ap (followed n b) c.fields ∙ eq-eqb (c.end + n) (length b) c.rest)))

-- a value that is written is the field's own
own_value : (r : Rule) (xs : List ℕ) (k x : ℕ) → x ≡ when r.kept (get_or xs k 0) r.fixed → r.low ≤ x → x ≤ r.high → ours r x ≡ true
unfolding when
own_value r xs k x e l u = simp (le-ltb x r.low l, le-ltb r.high x u) (ap (λ x. when r.kept true (eqb x r.fixed)) e ∙ by r.kept (get_or xs k 0) r.fixed)
  where
    by : (t : Bool) (a c : ℕ) → when t true (eqb (when t a c) c) ≡ true
    by true a c = refl
    by false a c = eq-eqb c c refl

-- what is written is exact, wherever it stands
exact-back : (fs : List Field) (xs : List ℕ) (k v fl : ℕ) (bs : List ℕ) → encode fs xs k v fl ≡ made bs → (pre rest : List ℕ) →
    exact fs (length rest) (pre ++ (bs ++ rest)) (length pre) v fl ≡ true
unfolding encode when exact standard decode
exact-back [] xs k v fl bs e pre rest =
    let q : [] ≡ bs = cc in
    ap (λ bs. eqb (length pre + length rest) (length (pre ++ (bs ++ rest)))) (sym q) ∙ eq-eqb (length pre + length rest) (length (pre ++ rest)) (sym (length-append pre rest))
exact-back (f ∷ fs) xs k v fl bs e pre rest =
    let r = rule_of f v fl in
    let x = when r.kept (get_or xs k 0) r.fixed in
    let v' = when r.version x v in
    let fl' = when r.flags x fl in
    let i = lay-made r x (encode fs xs (when r.kept (k + 1) k) v' fl') bs e in
    let cs = i.2.0 in
    let b = pre ++ (bs ++ rest) in
    let here = bytes r.width x in
    let shape : b ≡ pre ++ (here ++ (cs ++ rest)) = ap (λ l. pre ++ (l ++ rest)) i.2.2 ∙ ap (λ l. pre ++ l) (append_assoc here cs rest) in
    let w : length pre + r.width ≤ length b =
    omega (arith, ap length shape ∙ length-append pre (here ++ (cs ++ rest)), length-append here (cs ++ rest), length-bytes r.width x) in
    let y : be r.width b (length pre) ≡ x =
    ap (λ b. be r.width b (length pre)) shape ∙ be-bytes r.width x pre (cs ++ rest) ∙ mod-eq_of_lt (omega (arith, i.1, range f v fl)) in
    let l : length (pre ++ here) ≡ length pre + r.width = length-append pre here ∙ ap (λ n. length pre + n) (length-bytes r.width x) in
    let on : exact fs (length rest) b (length pre + r.width) v' fl' ≡ true =
    ap₂ (λ (b : List ℕ) (at : ℕ). exact fs (length rest) b at v' fl') (shape ∙ sym (append_assoc pre here (cs ++ rest))) (sym l)
    ∙ exact-back fs xs (when r.kept (k + 1) k) v' fl' cs i.2.1 (pre ++ here) rest in
    exact-step f fs (length rest) b (length pre) v fl
    ∙ ap (λ x. when (ltb (length b) (length pre + r.width)) false (when (ours r x) (exact fs (length rest) b (length pre + r.width) (when r.version x v) (when r.flags x fl)) false)) y
    ∙ simp (le-ltb (length b) (length pre + r.width) w, own_value r xs k x refl i.0 i.1, on)

laid-bytes : (fs : List Field) (xs : List ℕ) (k v fl : ℕ) (bs : List ℕ) → encode fs xs k v fl ≡ made bs → Bytes bs
unfolding encode
laid-bytes [] xs k v fl bs e = let q : [] ≡ bs = cc in subst Bytes q (λ i. omega arith)
laid-bytes (f ∷ fs) xs k v fl bs e =
    let r = rule_of f v fl in
    let x = when r.kept (get_or xs k 0) r.fixed in
    let i = lay-made r x (encode fs xs (when r.kept (k + 1) k) (when r.version x v) (when r.flags x fl)) bs e in
    let ih = laid-bytes fs xs (when r.kept (k + 1) k) (when r.version x v) (when r.flags x fl) i.2.0 i.2.1 in
    subst Bytes (sym i.2.2) (joined (bytes r.width x) i.2.0 (are-bytes r.width x) ih)

module _ (kind : ℕ) (fs : List Field) (xs tail buf : List ℕ) (k : ℕ) (out : List ℕ) (hk : kind < 4294967296) (w : write_of kind fs xs tail buf ≡ wrote (Ok k) out) where
  -- WHATEVER IS WRITTEN IS CANONICAL
  pub writes-canonical : canonical_of kind fs (length tail) (take k out) ≡ true
  writes-canonical =
      let b = take k out in
      let r = written-box kind fs xs tail buf k out hk w in
      let f : exact fs (length tail) b 8 0 0 ≡ true =
      ap₂ (λ (b : List ℕ) (n : ℕ). exact fs (length tail) b n 0 0) r.shape (sym r.eight) ∙ exact-back fs xs 0 0 0 r.fields r.coded r.head tail in
      yes-canonical kind fs (length tail) b (omega (arith, r.long)) r.size r.type (sym f)

  pub written-canonical : Bytes tail → Canonical kind fs (length tail) (take k out)
  written-canonical h =
      let r = written-box kind fs xs tail buf k out hk w in
      decided kind fs (length tail) (take k out) writes-canonical
      (subst Bytes (sym r.shape) (joined r.head (r.fields ++ tail) r.byte (joined r.fields tail (laid-bytes fs xs 0 0 0 r.fields r.coded) h)))

-- the same of a writer of a table, and of one whose entries are judged: as many bytes follow as the count asks for
module _ (kind : ℕ) (fs : List Field) (xs : List ℕ) (size : ℕ) (rows buf : List ℕ) (k : ℕ) (out : List ℕ) (hk : kind < 4294967296) where
  pub table-writes-canonical : write_table kind fs xs size rows buf ≡ wrote (Ok k) out → canonical_of kind fs size (take k out) ≡ true
  table-writes-canonical w =
      let p = as_many kind fs xs size rows buf k out w in
      ap (λ n. canonical_of kind fs n (take k out)) (sym p.0) ∙ writes-canonical kind fs xs rows buf k out hk p.1

  pub judged-writes-canonical : (v : Result (Unit {0}) Refusal) → write_judged kind fs xs size v rows buf ≡ wrote (Ok k) out → canonical_of kind fs size (take k out) ≡ true
  judged-writes-canonical v w =
      let p = sound kind fs xs size v rows buf k out w in
      ap (λ n. canonical_of kind fs n (take k out)) (sym p.0) ∙ writes-canonical kind fs xs rows buf k out hk p.2
