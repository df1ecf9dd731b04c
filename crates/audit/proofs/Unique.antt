-- The promise fixes one answer: two that meet it are equal. Stated on the promise itself. Assumes nothing.
use mathlib.Core.Path.{◌≡◌, sym, ◌∙◌}
use Rattle.audit.proofs.audit.Reads as audit

audit-fixed : (κs : _) (a : _) (r q : _) (s t : _) → audit.Post κs a r s → audit.Post κs a q t → r ≡ q
audit-fixed κs a r q s t p o = p ∙ sym o
