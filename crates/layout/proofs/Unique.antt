-- Each promise fixes one answer: two that meet it are equal. Stated on the promise itself.
-- Assumes nothing.
use mathlib.Core.Path.{◌≡◌, sym, ◌∙◌}
use Rattle.layout.proofs.rule.rule_of.Reads as rule-of
use Rattle.layout.proofs.rule.Rule.refusal.Reads as refusal
use Rattle.layout.proofs.read.by.Reads as read_by_lem
use Rattle.layout.proofs.read.rest.Reads as read-rest
use Rattle.layout.proofs.table.first_cut.Reads as first-cut

rule-of-fixed : (κs : _) (a : _) (r q : _) (s t : _) → rule-of.Post κs a r s → rule-of.Post κs a q t → r ≡ q
rule-of-fixed κs a r q s t p o = p ∙ sym o

read-by-fixed : (κs : _) (a : _) (r q : _) (s t : _) → read_by_lem.Post κs a r s → read_by_lem.Post κs a q t → r ≡ q
read-by-fixed κs a r q s t p o = p ∙ sym o

first-cut-fixed : (κs : _) (a : _) (r q : _) (s t : _) → first-cut.Post κs a r s → first-cut.Post κs a q t → r ≡ q
first-cut-fixed κs a r q s t p o = p ∙ sym o

read-rest-fixed : (κs : _) (a : _) (r q : _) (s t : _) → read-rest.Post κs a r s → read-rest.Post κs a q t → r.now ≡ q.now
read-rest-fixed κs a r q s t p o = p ∙ sym o

refusal-fixed : (κs : _) (a : _) (r q : _) (s t : _) → refusal.Post κs a r s → refusal.Post κs a q t → r ≡ q
refusal-fixed κs a r q s t p o = p ∙ sym o
