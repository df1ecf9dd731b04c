-- Worked examples of the definitions, computed. Assumes nothing.
use Rattle.std.specs.Prelude.{Ok, Err}
use mathlib.Core.Path.{◌≡◌, refl}
use Rattle.numbers.specs.Field.{when}
use Rattle.numbers.specs.declared.Refusal.TheVariants as refusal
use Rattle.media.specs.Handlers.{kind_of}
use Rattle.media.specs.Entries.{media_of}
use Rattle.media.specs.declared.handlers.Kind.TheVariants.{Subtitle}
use Rattle.media.specs.declared.entries.Media.TheVariants.{H265}

-- 'sbtl'; 'hint', and 'vide' in capitals
sbtl : kind_of 0x7362746c ≡ Ok Subtitle
unfolding when
sbtl = refl

hint : kind_of 0x68696e74 ≡ Err (refusal.Value 0)
unfolding when
hint = refl

capitals : kind_of 0x56494445 ≡ Err (refusal.Value 0)
unfolding when
capitals = refl

-- 'hev1'; 'hvc1'
hev1 : media_of 0x68657631 ≡ Ok H265
unfolding when
hev1 = refl

hvc1 : media_of 0x68766331 ≡ Err (refusal.Value 0)
unfolding when
hvc1 = refl
