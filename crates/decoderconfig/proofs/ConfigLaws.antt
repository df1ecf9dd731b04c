-- What is written reads back the same: the record, and the info where it lies. Assumes nothing.
use Rattle.std.specs.Prelude.{Ok, Err, Some, None}
use mathlib.Core.Path.{◌≡◌, refl, sym, ap, ◌∙◌}
use mathlib.Core.List.{List, [], ◌∷◌, ◌++◌}
use mathlib.Core.Bool.{Bool, true, false}
use Prim.Native.Nat.{ℕ, ◌+◌}
use native.Mathlib.Omega.{arith}
use lib.ListN.{length, length-append}
use Rattle.numbers.specs.Number.{bytes}
use Rattle.numbers.proofs.Laws.{length-bytes}
use Rattle.numbers.proofs.Chain.{by-true}
use Rattle.descriptor.specs.Descriptor.{size_for, head_bytes}
use Rattle.descriptors.specs.Descriptors.{seek_of, span, descriptor_bytes}
use Rattle.descriptors.proofs.Laws.{seek-end, seek-one}
use Rattle.descriptors.proofs.Lies.{Lies, next, split, in-it, number-back, span-back}
use Rattle.descriptors.proofs.Puts.{length-head, length-descriptor}
use Rattle.decoderconfig.specs.DecoderConfig.{numbers_of, later, is_whole, info_by, info_of, config, with_info, with_numbers, config_of, sound, number_bytes, info_bytes, config_bytes}
use Rattle.decoderconfig.specs.declared.Config.{Config}
use Rattle.decoderconfig.proofs.Puts.{Sound, sounds, length-numbers, info-there, info-absent}

module _ (c : Config) (s pre rest : List ℕ) (at : ℕ) (i : List ℕ) (ok : Sound c i) where
  numbers-back : Lies s pre (number_bytes c) rest at → numbers_of s at ≡ Ok (c.object_type_indication, c.stream, c.buffer_size, c.max_bitrate, c.avg_bitrate)
  numbers-back h =
      let x1 = bytes 1 c.object_type_indication in
      let x2 = bytes 1 c.stream in
      let x3 = bytes 3 c.buffer_size in
      let x4 = bytes 4 c.max_bitrate in
      let x5 = bytes 4 c.avg_bitrate in
      let l4 = split s pre (x1 ++ x2 ++ x3 ++ x4) x5 rest at h in
      let l3 = split s pre (x1 ++ x2 ++ x3) x4 (x5 ++ rest) at l4 in
      let l2 = split s pre (x1 ++ x2) x3 (x4 ++ (x5 ++ rest)) at l3 in
      let l1 = split s pre x1 x2 (x3 ++ (x4 ++ (x5 ++ rest))) at l2 in
      let m2 : Lies s (pre ++ x1) x2 (x3 ++ (x4 ++ (x5 ++ rest))) (at + 1) = next s pre x1 x2 (x3 ++ (x4 ++ (x5 ++ rest))) at 1 l1 (sym (length-bytes 1 c.object_type_indication)) in
      let m3 : Lies s (pre ++ (x1 ++ x2)) x3 (x4 ++ (x5 ++ rest)) (at + 2) =
      next s pre (x1 ++ x2) x3 (x4 ++ (x5 ++ rest)) at 2 l2 (omega (arith, length-append x1 x2, length-bytes 1 c.object_type_indication, length-bytes 1 c.stream)) in
      let m4 : Lies s (pre ++ (x1 ++ x2 ++ x3)) x4 (x5 ++ rest) (at + 5) =
      next s pre (x1 ++ x2 ++ x3) x4 (x5 ++ rest) at 5 l3
      (omega (arith, length-append (x1 ++ x2) x3, length-append x1 x2, length-bytes 1 c.object_type_indication, length-bytes 1 c.stream, length-bytes 3 c.buffer_size)) in
      let m5 : Lies s (pre ++ (x1 ++ x2 ++ x3 ++ x4)) x5 rest (at + 9) =
      next s pre (x1 ++ x2 ++ x3 ++ x4) x5 rest at 9 l4
      (omega (arith, length-append (x1 ++ x2 ++ x3) x4, length-append (x1 ++ x2) x3, length-append x1 x2, length-bytes 1 c.object_type_indication, length-bytes 1 c.stream, length-bytes 3 c.buffer_size, length-bytes 4 c.max_bitrate)) in
      number-back Err 1 c.object_type_indication s pre (x2 ++ (x3 ++ (x4 ++ (x5 ++ rest)))) at l1 ok.object _
      ∙ number-back Err 1 c.stream s (pre ++ x1) (x3 ++ (x4 ++ (x5 ++ rest))) (at + 1) m2 ok.stream _
      ∙ number-back Err 3 c.buffer_size s (pre ++ (x1 ++ x2)) (x4 ++ (x5 ++ rest)) (at + 2) m3 ok.buffer _
      ∙ number-back Err 4 c.max_bitrate s (pre ++ (x1 ++ x2 ++ x3)) (x5 ++ rest) (at + 5) m4 ok.max _
      ∙ number-back Err 4 c.avg_bitrate s (pre ++ (x1 ++ x2 ++ x3 ++ x4)) rest (at + 9) m5 ok.avg _

-- the record that is read, and where the info lies
pub record Back (c : Config) (i s : List ℕ) (at : ℕ) : Type 0 where
  pub from : ℕ
  pub to : ℕ
  pub read : config_of s at ≡ Ok (c, from, to)
  pub part : span s from to ≡ i

nothing : (x : List ℕ) → length x ≡ 0 → [] ≡ x
nothing [] e = refl
nothing (y ∷ x) e = absurd (omega arith)

pub config-back : (c : Config) (i s pre : List ℕ) (at : ℕ) → sound c i ≡ true → Lies s pre (config_bytes c i) [] at → Back c i s at
config-back c i s pre at h l = by c.has_info refl
  where
    ok : Sound c i
    ok = sounds c i h

    first : numbers_of s at ≡ Ok (c.object_type_indication, c.stream, c.buffer_size, c.max_bitrate, c.avg_bitrate)
    first = numbers-back c s pre (info_bytes c.has_info i ++ []) at i ok (split s pre (number_bytes c) (info_bytes c.has_info i) [] at l)

    second : Lies s (pre ++ number_bytes c) (info_bytes c.has_info i) [] (at + 13)
    second = next s pre (number_bytes c) (info_bytes c.has_info i) [] at 13 (split s pre (number_bytes c) (info_bytes c.has_info i) [] at l) (sym (length-numbers c))

    told : (f t : ℕ) (b : Bool) → c.has_info ≡ b → with_info c.object_type_indication c.stream c.buffer_size c.max_bitrate c.avg_bitrate (info_of s (at + 13))
        ≡ Ok (config c.object_type_indication c.stream c.buffer_size c.max_bitrate c.avg_bitrate b, f, t) → config_of s at ≡ Ok (c, f, t)
    told f t b e q =
        ap (with_numbers s at) first ∙ q
        ∙ ap (λ b. Ok (config c.object_type_indication c.stream c.buffer_size c.max_bitrate c.avg_bitrate b, f, t)) (sym e)

    by : (b : Bool) → c.has_info ≡ b → Back c i s at
    by false e =
        let z : length s ≡ at + 13 = omega (arith, in-it s (pre ++ number_bytes c) (info_bytes c.has_info i) [] (at + 13) second, ap length (info-absent c.has_info i e)) in
        let n : info_of s (at + 13) ≡ (Ok None) = ap (info_by s) (seek-end s (at + 13) 5 5 (omega (arith, z))) in
        record {
          from = 0;
          to = 0;
          read = told 0 0 false e (ap (with_info c.object_type_indication c.stream c.buffer_size c.max_bitrate c.avg_bitrate) n);
          part = nothing i (ok.none e);
        }
    by true e =
        let d = info-there c.has_info i e in
        let third : Lies s (pre ++ number_bytes c) (descriptor_bytes 5 i) [] (at + 13) = (second.0 ∙ ap (λ x. pre ++ number_bytes c ++ (x ++ [])) d, second.1) in
        let f = at + 13 + 1 + size_for (length i) in
        let t = f + length i in
        let z : length s ≡ t = omega (arith, in-it s (pre ++ number_bytes c) (descriptor_bytes 5 i) [] (at + 13) third, length-descriptor 5 i) in
        let fourth : Lies s (pre ++ number_bytes c) (head_bytes 5 (length i)) (i ++ []) (at + 13) = split s (pre ++ number_bytes c) (head_bytes 5 (length i)) i [] (at + 13) third in
        let fifth = next s (pre ++ number_bytes c) (head_bytes 5 (length i)) i [] (at + 13) (size_for (length i) + 1) fourth (sym (length-head 5 (length i))) in
        let same : span s f t ≡ i = span-back s (pre ++ number_bytes c ++ head_bytes 5 (length i)) i [] f t (fifth.0, omega (arith, fifth.1)) refl in
        let n : info_of s (at + 13) ≡ Ok (Some (f, t)) =
        ap (info_by s) (seek-one 5 i (pre ++ number_bytes c) [] s (at + 13) 5 5 third.0 third.1 (ok.some e) refl)
        ∙ sym (by-true _ _ _ (is_whole (span s f t)) (ap is_whole same ∙ ok.whole e) (sym (ap (later f t) (seek-end s t 256 256 (omega (arith, z)))))) in
        record {
          from = f;
          to = t;
          read = told f t true e (ap (with_info c.object_type_indication c.stream c.buffer_size c.max_bitrate c.avg_bitrate) n);
          part = same;
        }
