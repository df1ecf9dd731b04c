-- The descriptor of an elementary stream in a box (ISO/IEC 14496-14, 5.6; ES_Descriptor, 14496-1, 7.2.6.5): its fields, then
-- descriptors, of which the DecoderConfig (tag 4) and the SLConfig (tag 6, 7.3.2.3) are kept (A29). What stands behind the
-- SLConfig is skipped, and so is what stands behind the stream's descriptor. Another tag than 3 is 8 at the tag. Of several
-- DecoderConfigs, of which 14496-1 has exactly one, the first counts. Assumes nothing.
use Rattle.std.specs.Prelude.{ℕ, ◌+◌, ◌^◌, List, [], ◌∷◌, ◌++◌, Bool, true, false, ◌&&◌, length, take, get_or, eqb, ltb, leb, Result, Option, Ok, Err, Some, None}
use Rattle.numbers.specs.Field.{field, when}
use Rattle.numbers.specs.declared.Refusal.TheVariants as refusal
use Rattle.put.specs.Put.{Wrote, wrote}
use Rattle.layout.specs.Read.{read_of}
use Rattle.layout.specs.Write.{write_of, padded, slotted}
use Rattle.layout.specs.declared.Field.{Field}
use Rattle.layout.specs.declared.Field.TheVariants.{Version, Flags}
use Rattle.layout.specs.declared.read.Fields as layout
use Rattle.descriptor.specs.Descriptor.{length_of}
use Rattle.descriptors.specs.Descriptors.{seek_of, span, descriptor_bytes}
use Rattle.decoderconfig.specs.DecoderConfig.{config_of, config_bytes}
use Rattle.decoderconfig.specs.DecoderConfig as config
use Rattle.decoderconfig.specs.declared.Config.{Config}
use Rattle.esfields.specs.EsFields.{fields_of, field_bytes}
use Rattle.esfields.specs.EsFields as es
use Rattle.esfields.specs.declared.Stream.{Stream}
use Rattle.esds.specs.declared.Esds.{Esds}
use Rattle.esds.specs.declared.Places.{Places}
use Rattle.esds.specs.declared.Parts.{Parts}
use Rattle.numbers.specs.declared.Refusal.{Refusal}
use Rattle.descriptor.specs.declared.Length.{Length}
use Rattle.descriptors.specs.declared.Sought.{Sought}

abbrev pub kind : ℕ
kind = 0x65736473

abbrev pub fields : List Field
fields = padded (Version 0 0 ∷ Flags ∷ [])

-- READING

abbrev pub behind : Option Config → Bool → ℕ → ℕ → ℕ → ℕ → Result ((Option Config) × Bool × Parts) Refusal
behind d has i j from to = Ok (d, has, record { info = i; info_end = j; sl = from; sl_end = to })

-- behind the first DecoderConfig: an SLConfig, whatever stands before it
abbrev pub last_of : Config → ℕ → ℕ → Result (Option Sought) Refusal → Result ((Option Config) × Bool × Parts) Refusal
last_of c i j (Ok None) = behind (Some c) false i j 0 0
last_of c i j (Ok (Some d)) = behind (Some c) true i j d.from d.to
last_of c i j (Err q) = Err q

abbrev pub after_config : List ℕ → ℕ → Config → ℕ → ℕ → Result ((Option Config) × Bool × Parts) Refusal
after_config s at c i j = last_of c i j (seek_of s at 6 6)

abbrev pub configured : List ℕ → ℕ → Result (Config × ℕ × ℕ) Refusal → Result ((Option Config) × Bool × Parts) Refusal
configured s to (Ok (c, i, j)) = after_config s to c i j
configured s to (Err q) = Err q

abbrev pub first_of : List ℕ → Result (Option Sought) Refusal → Result ((Option Config) × Bool × Parts) Refusal
first_of s (Ok None) = behind None false 0 0 0 0
first_of s (Ok (Some d)) = when (eqb d.tag 6) (behind None true 0 0 d.from d.to) (configured s d.to (config_of (take d.to s) d.from))
first_of s (Err q) = Err q

abbrev pub tail_of : List ℕ → ℕ → Result ((Option Config) × Bool × Parts) Refusal
tail_of s at = first_of s (seek_of s at 4 6)

-- all that stands in the stream's descriptor, which ends where the bytes do
abbrev pub esds : ℕ → Stream → Option Config → Bool → Esds
esds fl m d has = record { flags = fl; stream = m; decoder = d; has_sl = has }

abbrev pub places : ℕ → ℕ → Parts → Places
places u v p = record { url = u; url_end = v; info = p.info; info_end = p.info_end; sl = p.sl; sl_end = p.sl_end }

abbrev pub with_tail : ℕ → Stream → ℕ → ℕ → Result ((Option Config) × Bool × Parts) Refusal → Result (Esds × Places) Refusal
with_tail fl m u v (Ok (d, has, p)) = Ok (esds fl m d has, places u v p)
with_tail fl m u v (Err q) = Err q

abbrev pub with_fields : List ℕ → ℕ → Result (Stream × ℕ × ℕ × ℕ) Refusal → Result (Esds × Places) Refusal
with_fields s fl (Ok (m, u, v, end)) = with_tail fl m u v (tail_of s end)
with_fields s fl (Err q) = Err q

abbrev pub content_of : List ℕ → ℕ → ℕ → Result (Esds × Places) Refusal
content_of s at fl = with_fields s fl (fields_of s at)

-- the stream's descriptor: 1 where it passes the box's end, 8 for another tag, then the faults of its length, which stands
-- behind the tag
abbrev pub lengthed : List ℕ → ℕ → ℕ → ℕ → Result Length Refusal → Result (Esds × Places) Refusal
lengthed s at fl tag (Ok l) =
    when (leb (l.after + l.value) (length s)) (when (eqb tag 3) (content_of (take (l.after + l.value) s) l.after fl) (Err (refusal.Value at))) (Err (refusal.Cut at))
lengthed s at fl tag (Err q) = when (eqb tag 3) (Err q) (Err (refusal.Value at))

abbrev pub stream_of : List ℕ → ℕ → ℕ → Result (Esds × Places) Refusal
stream_of s at fl = field Err 1 s at (λ tag. lengthed s at fl tag (length_of s (at + 1)))

abbrev pub full_of : List ℕ → Result layout.Fields Refusal → Result (Esds × Places) Refusal
full_of b (Ok f) = stream_of (take f.end b) f.place (get_or f.values 1 0)
full_of b (Err q) = Err q

abbrev pub esds_of : List ℕ → Result (Esds × Places) Refusal
esds_of b = full_of b (read_of kind fields b)

-- the parts of a box that is read; none of one that is refused
abbrev pub span_of : (Places → ℕ) → (Places → ℕ) → List ℕ → Result (Esds × Places) Refusal → List ℕ
span_of from to b (Ok (m, p)) = span b (from p) (to p)
span_of from to b (Err q) = []

abbrev pub url_of : List ℕ → List ℕ
url_of b = span_of (λ p. p.url) (λ p. p.url_end) b (esds_of b)

abbrev pub info_of : List ℕ → List ℕ
info_of b = span_of (λ p. p.info) (λ p. p.info_end) b (esds_of b)

abbrev pub sl_of : List ℕ → List ℕ
sl_of b = span_of (λ p. p.sl) (λ p. p.sl_end) b (esds_of b)

-- WRITING

-- what stands behind the fields: a DecoderConfig, an SLConfig
abbrev pub decoder_bytes : Option Config → List ℕ → List ℕ
decoder_bytes None info = []
decoder_bytes (Some c) info = descriptor_bytes 4 (config_bytes c info)

abbrev pub sl_bytes : Bool → List ℕ → List ℕ
sl_bytes has sl = when has (descriptor_bytes 6 sl) []

abbrev pub content_bytes : Esds → List ℕ → List ℕ → List ℕ → List ℕ
content_bytes m url info sl = field_bytes m.stream url ++ decoder_bytes m.decoder info ++ sl_bytes m.has_sl sl

-- each can be written, with a length that four bytes hold; of what is not there no bytes are given
abbrev pub decoder_sound : Option Config → List ℕ → Bool
decoder_sound None info = eqb (length info) 0
decoder_sound (Some c) info = config.sound c info && ltb (length (config_bytes c info)) (128 ^ 4)

abbrev pub sl_sound : Bool → List ℕ → Bool
sl_sound has sl = when has (ltb (length sl) (128 ^ 4)) (eqb (length sl) 0)

-- how many bytes each has
abbrev pub decoder_size : Option Config → List ℕ → Result ℕ Refusal
decoder_size d info = when (decoder_sound d info) (Ok (length (decoder_bytes d info))) (Err refusal.Unwritable)

abbrev pub sl_size : Bool → List ℕ → Result ℕ Refusal
sl_size has sl = when (sl_sound has sl) (Ok (length (sl_bytes has sl))) (Err refusal.Unwritable)

abbrev pub sound : Esds → List ℕ → List ℕ → List ℕ → Bool
sound m url info sl =
    es.sound m.stream url && decoder_sound m.decoder info && sl_sound m.has_sl sl && ltb (length (content_bytes m url info sl)) (128 ^ 4)

abbrev pub esds_in : Esds → List ℕ → List ℕ → List ℕ → List ℕ → Wrote
esds_in m url info sl out =
    when (sound m url info sl) (write_of kind fields (slotted (0 ∷ m.flags ∷ [])) (descriptor_bytes 3 (content_bytes m url info sl)) out)
    (wrote (Err refusal.Unwritable) out)
