-- Each promise fixes one answer: two that meet it are equal. Stated on the promise itself. Assumes nothing.
use mathlib.Core.Path.{◌≡◌, sym, ◌∙◌}
use Rattle.emsg_parts.proofs.scheme.Reads as scheme
use Rattle.emsg_parts.proofs.value.Reads as value
use Rattle.emsg_parts.proofs.message.Reads as message

scheme-fixed : (κs : _) (a : _) (r q : _) (s t : _) → scheme.Post κs a r s → scheme.Post κs a q t → r.now ≡ q.now
scheme-fixed κs a r q s t p o = p ∙ sym o

value-fixed : (κs : _) (a : _) (r q : _) (s t : _) → value.Post κs a r s → value.Post κs a q t → r.now ≡ q.now
value-fixed κs a r q s t p o = p ∙ sym o

message-fixed : (κs : _) (a : _) (r q : _) (s t : _) → message.Post κs a r s → message.Post κs a q t → r.now ≡ q.now
message-fixed κs a r q s t p o = p ∙ sym o
