use Rattle.std.specs.Prelude.{Some}
use mathlib.Core.Path.{◌≡◌, sym, ◌∙◌}
use native.Mathlib.Omega.{arith}
use Rattle.emsg.proofs.Texts.{at-end}
use Rattle.emsg.proofs.strings_at.Goals as goal

pub overflow_add-value : goal.overflow_add-value
overflow_add-value c =
    let found : c.text_end.result ≡ Some c.in_ok-scheme_end.scheme_end = grind arith in
    omega (arith, (at-end c.args.b.now c.args.at _ (sym c.text_end.ensures ∙ found)).1)
