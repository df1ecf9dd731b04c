-- What was laid behind the flags, read where it stands. Assumes nothing.
use Rattle.std.specs.Prelude.{Option, Ok, Err, Some, None}
use mathlib.Core.Path.{◌≡◌, refl, sym, ap, ap₂, ◌∙◌}
use mathlib.Core.List.{List, [], ◌∷◌, ◌++◌, append_assoc, append-nil}
use mathlib.Core.Bool.{true}
use Prim.Native.Nat.{ℕ, ◌+◌, ◌-◌, ◌^◌, ◌≤◌, ◌<◌}
use native.Mathlib.Nat.{mod-eq_of_lt}
use native.Mathlib.Omega.{arith}
use lib.ListN.{length, take, drop, length-append}
use lib.Seq.{take-append_seam, drop-append_seam}
use Rattle.numbers.specs.Number.{be, bytes}
use Rattle.numbers.proofs.Laws.{be-bytes, length-bytes}
use Rattle.numbers.proofs.Chain as chain
use Rattle.numbers.proofs.Chain.{is_eq, is_ne}
use Rattle.strings.specs.Text.{text_at, text_end}
use Rattle.emsg.specs.Emsg.{first_of, second_of, strings_of, numbers_of, emsg, places, after_strings, numbers_last, after_numbers, strings_last, content_of, span, whole, string_bytes, number_bytes, laid}
use Rattle.emsg.specs.declared.Emsg.{Emsg}
use Rattle.emsg.specs.declared.Places.{Places}
use Rattle.emsg.proofs.Texts.{joined}
use Rattle.emsg.proofs.Puts.{Sound, early-time, late-time, length-strings, length-numbers, laid-0, laid-1}

-- ONE PART between others

abbrev Lies : List ℕ → List ℕ → List ℕ → List ℕ → ℕ → Type 0
Lies b pre x rest at = (b ≡ pre ++ (x ++ rest)) × (at ≡ length pre)

-- the next part lies behind this one
next : (b pre x y rest : List ℕ) (at n : ℕ) → Lies b pre x (y ++ rest) at → n ≡ length x → Lies b (pre ++ x) y rest (at + n)
next b pre x y rest at n h e = (h.0 ∙ sym (append_assoc pre x (y ++ rest)), omega (arith, h.1, e, length-append pre x))

is_cut : (t : Option ℕ) → whole t ≡ true → t ≡ None
is_cut None h = refl
is_cut (Some e) h = let z : ◌≡◌ {A = ℕ} 0 1 = cc in absurd (omega arith)

text-back : (b pre s rest : List ℕ) (at : ℕ) → Lies b pre s ((0 ∷ []) ++ rest) at → whole (text_at s 0) ≡ true → text_at b at ≡ Some (at + length s)
text-back b pre s rest at h w =
    ap₂ (λ (l : List ℕ) (n : ℕ). text_end (drop n l) at) h.0 h.1
    ∙ ap (λ l. text_end l at) (drop-append_seam pre (s ++ (0 ∷ rest))) ∙ joined s rest 0 at (is_cut (text_at s 0) w)

number-back : (w n : ℕ) (b pre rest : List ℕ) (at : ℕ) → Lies b pre (bytes w n) rest at → n < 256 ^ w → (at + w ≤ length b) × (n ≡ be w b at)
number-back w n b pre rest at h l = (
  omega (arith, ap length h.0, h.1, length-append pre (bytes w n ++ rest), length-append (bytes w n) rest, length-bytes w n),
  sym (ap₂ (λ (l : List ℕ) (k : ℕ). be w l k) h.0 h.1 ∙ be-bytes w n pre rest ∙ mod-eq_of_lt l),
)

pub span-back : (b pre x rest : List ℕ) (from to : ℕ) → Lies b pre x rest from → to ≡ from + length x → span b from to ≡ x
span-back b pre x rest from to h e =
    ap (λ n. take n (drop from b)) (let z : to - from ≡ length x = omega (arith, e) in z)
    ∙ ap₂ (λ (l : List ℕ) (n : ℕ). take (length x) (drop n l)) h.0 h.1
    ∙ ap (take (length x)) (drop-append_seam pre (x ++ rest)) ∙ take-append_seam x rest

-- STRINGS AND NUMBERS

module _ (b pre s v rest : List ℕ) (at : ℕ) (h : Lies b pre (string_bytes s v) rest at) (hs : whole (text_at s 0) ≡ true) (hv : whole (text_at v 0) ≡ true) where
  pub scheme-lies : Lies b pre s ((0 ∷ []) ++ (v ++ ((0 ∷ []) ++ rest))) at
  scheme-lies = (h.0 ∙ simp append_assoc, h.1)

  pub value-lies : Lies b (pre ++ s ++ (0 ∷ [])) v ((0 ∷ []) ++ rest) (at + length s + 1)
  value-lies =
      next b (pre ++ s) (0 ∷ []) v ((0 ∷ []) ++ rest) (at + length s) 1
      (next b pre s (0 ∷ []) (v ++ ((0 ∷ []) ++ rest)) at (length s) scheme-lies refl) refl

  pub strings-back : strings_of b at ≡ Ok (at + length s, at + length s + 1 + length v)
  strings-back =
      ap (first_of b at) (text-back b pre s (v ++ ((0 ∷ []) ++ rest)) at scheme-lies hs)
      ∙ ap (second_of (at + length s)) (text-back b (pre ++ s ++ (0 ∷ [])) v rest (at + length s + 1) value-lies hv)

module _ (m : Emsg) (w : ℕ) (b pre rest : List ℕ) (at : ℕ) (h : Lies b pre (number_bytes w m) rest at) (hs : m.timescale < 256 ^ 4) (ht : m.presentation_time < 256 ^ w)
    (hd : m.event_duration < 256 ^ 4) (hi : m.id < 256 ^ 4) where
  pub numbers-back : numbers_of w b at ≡ Ok (m.timescale, m.presentation_time, m.event_duration, m.id)
  numbers-back =
      let x1 = bytes 4 m.timescale in
      let x2 = bytes w m.presentation_time in
      let x3 = bytes 4 m.event_duration in
      let x4 = bytes 4 m.id in
      let l1 : Lies b pre x1 (x2 ++ (x3 ++ (x4 ++ rest))) at = (h.0 ∙ simp append_assoc, h.1) in
      let l2 : Lies b (pre ++ x1) x2 (x3 ++ (x4 ++ rest)) (at + 4) = next b pre x1 x2 (x3 ++ (x4 ++ rest)) at 4 l1 (sym (length-bytes 4 m.timescale)) in
      let l3 : Lies b (pre ++ x1 ++ x2) x3 (x4 ++ rest) (at + 4 + w) = next b (pre ++ x1) x2 x3 (x4 ++ rest) (at + 4) w l2 (sym (length-bytes w m.presentation_time)) in
      let l4 : Lies b (pre ++ x1 ++ x2 ++ x3) x4 rest (at + 4 + w + 4) = next b (pre ++ x1 ++ x2) x3 x4 rest (at + 4 + w) 4 l3 (sym (length-bytes 4 m.event_duration)) in
      let r1 = number-back 4 m.timescale b pre (x2 ++ (x3 ++ (x4 ++ rest))) at l1 hs in
      let r2 = number-back w m.presentation_time b (pre ++ x1) (x3 ++ (x4 ++ rest)) (at + 4) l2 ht in
      let r3 = number-back 4 m.event_duration b (pre ++ x1 ++ x2) (x4 ++ rest) (at + 4 + w) l3 hd in
      let r4 = number-back 4 m.id b (pre ++ x1 ++ x2 ++ x3) rest (at + 4 + w + 4) l4 hi in
      sym (chain.whole 4 b at Err _ _ m.timescale r1.0 r1.1
      (chain.whole w b (at + 4) Err _ _ m.presentation_time r2.0 r2.1
      (chain.whole 4 b (at + 4 + w) Err _ _ m.event_duration r3.0 r3.1
      (chain.whole 4 b (at + 4 + w + 4) Err _ _ m.id r4.0 r4.1 refl))))

-- THE CONTENT: what is read of it, and its three parts

pub record Back (m : Emsg) (s v message b : List ℕ) (at : ℕ) : Type 0 where
  pub p : Places
  pub read : content_of b at m.version m.flags ≡ Ok (m, p)
  pub scheme : span b p.scheme p.scheme_end ≡ s
  pub value : span b p.value p.value_end ≡ v
  pub rest : span b p.message p.end ≡ message

versioned : (m : Emsg) (v : ℕ) → m.version ≡ v → emsg v m.flags m.timescale m.presentation_time m.event_duration m.id ≡ m
versioned m v e = ap (λ v. emsg v m.flags m.timescale m.presentation_time m.event_duration m.id) (sym e)

module _ (m : Emsg) (s v message b pre : List ℕ) (at : ℕ) (h : Lies b pre (laid m s v message) [] at) (ok : Sound m s v) where
  all_of : (x : List ℕ) → laid m s v message ≡ x → b ≡ pre ++ x
  all_of x e = h.0 ∙ ap (λ l. pre ++ l) (append-nil (laid m s v message) ∙ e)

  pub early-back : m.version ≡ 0 → Back m s v message b at
  early-back e =
      let texts = string_bytes s v in
      let nums = number_bytes 4 m in
      let ls : Lies b pre texts (nums ++ (message ++ [])) at =
      (all_of (texts ++ nums ++ message) (laid-0 m s v message e) ∙ ap (λ l. pre ++ l) (append_assoc texts nums message ∙ ap (λ l. texts ++ (nums ++ l)) (sym (append-nil message))), h.1) in
      let ln = next b pre texts nums (message ++ []) at (length texts) ls refl in
      let lm = next b (pre ++ texts) nums message [] (at + length texts) 16 ln (sym (length-numbers 4 m)) in
      let f = at + length s + 1 + length v in
      let k : at + length texts ≡ f + 1 = omega (arith, length-strings s v) in
      let sb = strings-back b pre s v (nums ++ (message ++ [])) at ls ok.scheme ok.value in
      let nb = numbers-back m 4 b (pre ++ texts) (message ++ []) (f + 1) (ln.0, sym k ∙ ln.1) ok.scale (early-time m e ok.time) ok.duration ok.id in
      let p = places at (at + length s) f (f + 1 + 16) (length b) in
      record {
        p = p;
        read =
            sym (is_eq _ _ _ m.version 0 e refl)
            ∙ ap (after_strings b at m.flags) sb ∙ ap (numbers_last b at m.flags (at + length s) f) nb
            ∙ ap (λ m. Ok (m, p)) (versioned m 0 e);
        scheme = span-back b pre s ((0 ∷ []) ++ (v ++ ((0 ∷ []) ++ (nums ++ (message ++ []))))) at (at + length s) (scheme-lies b pre s v (nums ++ (message ++ [])) at ls ok.scheme ok.value) refl;
        value = span-back b (pre ++ s ++ (0 ∷ [])) v ((0 ∷ []) ++ (nums ++ (message ++ []))) (at + length s + 1) f (value-lies b pre s v (nums ++ (message ++ [])) at ls ok.scheme ok.value) refl;
        rest =
            span-back b (pre ++ texts ++ nums) message [] (f + 1 + 16) (length b) (lm.0, omega (arith, k, lm.1))
            (omega (arith, k, lm.1, ap length lm.0, length-append (pre ++ texts ++ nums) (message ++ []), length-append message []));
      }

  pub late-back : m.version ≡ 1 → Back m s v message b at
  late-back e =
      let texts = string_bytes s v in
      let nums = number_bytes 8 m in
      let e0 : m.version ≡ 0 → ⊥ = λ z. omega (arith, e, z) in
      let ln : Lies b pre nums (texts ++ (message ++ [])) at =
      (all_of (nums ++ texts ++ message) (laid-1 m s v message e0) ∙ ap (λ l. pre ++ l) (append_assoc nums texts message ∙ ap (λ l. nums ++ (texts ++ l)) (sym (append-nil message))), h.1) in
      let ls = next b pre nums texts (message ++ []) at 20 ln (sym (length-numbers 8 m)) in
      let lm = next b (pre ++ nums) texts message [] (at + 20) (length texts) ls refl in
      let f = at + 20 + length s + 1 + length v in
      let k : at + 20 + length texts ≡ f + 1 = omega (arith, length-strings s v) in
      let nb = numbers-back m 8 b pre (texts ++ (message ++ [])) at ln ok.scale (late-time m e0 ok.time) ok.duration ok.id in
      let sb = strings-back b (pre ++ nums) s v (message ++ []) (at + 20) ls ok.scheme ok.value in
      let p = places (at + 20) (at + 20 + length s) f (f + 1) (length b) in
      record {
        p = p;
        read =
            sym (is_ne _ _ _ m.version 0 e0 refl)
            ∙ ap (after_numbers b at m.flags) nb
            ∙ ap (strings_last b (at + 20) m.flags m.timescale m.presentation_time m.event_duration m.id) sb
            ∙ ap (λ m. Ok (m, p)) (versioned m 1 e);
        scheme = span-back b (pre ++ nums) s ((0 ∷ []) ++ (v ++ ((0 ∷ []) ++ (message ++ [])))) (at + 20) (at + 20 + length s) (scheme-lies b (pre ++ nums) s v (message ++ []) (at + 20) ls ok.scheme ok.value) refl;
        value = span-back b (pre ++ nums ++ s ++ (0 ∷ [])) v ((0 ∷ []) ++ (message ++ [])) (at + 20 + length s + 1) f (value-lies b (pre ++ nums) s v (message ++ []) (at + 20) ls ok.scheme ok.value) refl;
        rest =
            span-back b (pre ++ nums ++ texts) message [] (f + 1) (length b) (lm.0, omega (arith, k, lm.1))
            (omega (arith, k, lm.1, ap length lm.0, length-append (pre ++ nums ++ texts) (message ++ []), length-append message []));
      }
