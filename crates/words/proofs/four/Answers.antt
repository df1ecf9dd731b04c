use mathlib.Core.Path.{refl}
use Rattle.words.proofs.Words.{word-or}
use Rattle.words.proofs.four.Goals as goal

pub returns : goal.returns
returns c =
    word-or 4 _ _ _ c.read.result _ c.if-file-at.false refl c.read.ensures _ c.unwrap_or.ensures
