-- What is written reads back the same: the record, and the URL where it lies. Assumes nothing.
use Rattle.std.specs.Prelude.{Ok, Err}
use mathlib.Core.Path.{◌≡◌, refl, sym, ap, ◌∙◌}
use mathlib.Core.List.{List, ◌++◌}
use mathlib.Core.Bool.{true}
use Prim.Native.Nat.{ℕ, ◌+◌}
use native.Mathlib.Omega.{arith}
use lib.ListN.{length, length-append}
use Rattle.numbers.specs.Number.{be, bytes}
use Rattle.numbers.proofs.Laws.{length-bytes}
use Rattle.numbers.proofs.Chain.{whole}
use Rattle.descriptors.specs.Descriptors.{span}
use Rattle.descriptors.proofs.Lies.{Lies, next, split, in-it, number-back, span-back}
use Rattle.esfields.specs.EsFields.{wide, stream, fields_of, sound, field_bytes}
use Rattle.esfields.specs.declared.Stream.{Stream}
use Rattle.esfields.proofs.Puts.{sounds, length_fields}

-- the record that is read, where the URL lies, and where the fields end
pub record Back (m : Stream) (url s : List ℕ) (at : ℕ) : Type 0 where
  pub from : ℕ
  pub to : ℕ
  pub read : fields_of s at ≡ Ok (m, from, to, at + length (field_bytes m url))
  pub part : span s from to ≡ url

pub fields_back : (m : Stream) (url s pre rest : List ℕ) (at : ℕ) → sound m url ≡ true → Lies s pre (field_bytes m url) rest at → Back m url s at
fields_back m url s pre rest at h l =
    let ok = sounds m url h in
    let wd = wide m.flags 0x80 2 in
    let wu = wide m.flags 0x40 1 in
    let wo = wide m.flags 0x20 2 in
    let x1 = bytes 2 m.id in
    let x2 = bytes 1 m.flags in
    let x3 = bytes wd m.depends_on in
    let x4 = bytes wu (length url) in
    let x6 = bytes wo m.ocr_id in
    let k1 = length-bytes 2 m.id in
    let k2 = length-bytes 1 m.flags in
    let k3 = length-bytes wd m.depends_on in
    let k4 = length-bytes wu (length url) in
    let a2 = length-append x1 x2 in
    let a3 = length-append (x1 ++ x2) x3 in
    let a4 = length-append (x1 ++ x2 ++ x3) x4 in
    let a5 = length-append (x1 ++ x2 ++ x3 ++ x4) url in
    let s5 = split s pre (x1 ++ x2 ++ x3 ++ x4 ++ url) x6 rest at l in
    let s4 = split s pre (x1 ++ x2 ++ x3 ++ x4) url (x6 ++ rest) at s5 in
    let s3 = split s pre (x1 ++ x2 ++ x3) x4 (url ++ (x6 ++ rest)) at s4 in
    let s2 = split s pre (x1 ++ x2) x3 (x4 ++ (url ++ (x6 ++ rest))) at s3 in
    let s1 = split s pre x1 x2 (x3 ++ (x4 ++ (url ++ (x6 ++ rest)))) at s2 in
    let m2 : Lies s (pre ++ x1) x2 (x3 ++ (x4 ++ (url ++ (x6 ++ rest)))) (at + 2) = next s pre x1 x2 (x3 ++ (x4 ++ (url ++ (x6 ++ rest)))) at 2 s1 (sym k1) in
    let m3 : Lies s (pre ++ (x1 ++ x2)) x3 (x4 ++ (url ++ (x6 ++ rest))) (at + 3) = next s pre (x1 ++ x2) x3 (x4 ++ (url ++ (x6 ++ rest))) at 3 s2 (omega (arith, a2, k1, k2)) in
    let n4 = next s pre (x1 ++ x2 ++ x3) x4 (url ++ (x6 ++ rest)) at (3 + wd) s3 (omega (arith, a2, a3, k1, k2, k3)) in
    let m4 : Lies s (pre ++ (x1 ++ x2 ++ x3)) x4 (url ++ (x6 ++ rest)) (at + 3 + wd) = (n4.0, omega (arith, n4.1)) in
    let n5 = next s pre (x1 ++ x2 ++ x3 ++ x4) url (x6 ++ rest) at (3 + wd + wu) s4 (omega (arith, a2, a3, a4, k1, k2, k3, k4)) in
    let m5 : Lies s (pre ++ (x1 ++ x2 ++ x3 ++ x4)) url (x6 ++ rest) (at + 3 + wd + wu) = (n5.0, omega (arith, n5.1)) in
    let n6 = next s pre (x1 ++ x2 ++ x3 ++ x4 ++ url) x6 rest at (3 + wd + wu + length url) s5 (omega (arith, a2, a3, a4, a5, k1, k2, k3, k4)) in
    let m6 : Lies s (pre ++ (x1 ++ x2 ++ x3 ++ x4 ++ url)) x6 rest (at + 3 + wd + wu + length url) = (n6.0, omega (arith, n6.1)) in
    let e : at + 3 + wd + wu + length url + wo ≡ at + length (field_bytes m url) = omega (arith, length_fields m url) in
    record {
      from = at + 3 + wd + wu;
      to = at + 3 + wd + wu + length url;
      read =
          number-back Err 2 m.id s pre (x2 ++ (x3 ++ (x4 ++ (url ++ (x6 ++ rest))))) at s1 ok.id _
          ∙ number-back Err 1 m.flags s (pre ++ x1) (x3 ++ (x4 ++ (url ++ (x6 ++ rest)))) (at + 2) m2 ok.flags _
          ∙ number-back Err wd m.depends_on s (pre ++ (x1 ++ x2)) (x4 ++ (url ++ (x6 ++ rest))) (at + 3) m3 ok.depends _
          ∙ number-back Err wu (length url) s (pre ++ (x1 ++ x2 ++ x3)) (url ++ (x6 ++ rest)) (at + 3 + wd) m4 ok.url-has _
          ∙ sym (whole (length url) s (at + 3 + wd + wu) Err _ _ (be (length url) s (at + 3 + wd + wu))
          (omega (arith, in-it s (pre ++ (x1 ++ x2 ++ x3 ++ x4)) url (x6 ++ rest) (at + 3 + wd + wu) m5)) refl refl)
          ∙ number-back Err wo m.ocr_id s (pre ++ (x1 ++ x2 ++ x3 ++ x4 ++ url)) rest (at + 3 + wd + wu + length url) m6 ok.clock _
          ∙ ap (λ d. Ok (m, (at + 3 + wd + wu), (at + 3 + wd + wu + length url), d)) e;
      part = span-back s (pre ++ (x1 ++ x2 ++ x3 ++ x4)) url (x6 ++ rest) (at + 3 + wd + wu) (at + 3 + wd + wu + length url) m5 refl;
    }
