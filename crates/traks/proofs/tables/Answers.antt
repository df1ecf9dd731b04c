use Rattle.traks.proofs.Tells.{told}
use Rattle.traks.proofs.tables.Goals as goal

pub returns : goal.returns
returns c =
    told _ _ _ _ _ _ _ _ _ c.child-mdia.ensures c.child-minf.ensures c.child-p.ensures c.boxes_in-lie.ensures c.track.ensures
