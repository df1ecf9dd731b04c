use Rattle.keys.specs.Key.{keys}
use Rattle.keys.proofs.Picks.{same_row, here, further, unkeyed}
use Rattle.keys.proofs.find.Goals as goal

pub returns-then-kind-eq-TKHD : goal.returns-then-kind-eq-TKHD
unfolding keys
returns-then-kind-eq-TKHD c =
    here _ _ _ _ _ c.if-kind-eq-TKHD.true (same_row _ _ _ _ _ _ c.row-fields.ensures c.last.ensures)

pub returns-then-kind-eq-TREX : goal.returns-then-kind-eq-TREX
unfolding keys
returns-then-kind-eq-TREX c =
    further _ _ _ _ _ c.if-kind-eq-TKHD.false (here _ _ _ _ _ c.if-kind-eq-TREX.true (same_row _ _ _ _ _ _ c.row-fields-then-kind-eq-TREX.ensures c.last-then-kind-eq-TREX.ensures))

pub returns-then-kind-eq-TFHD : goal.returns-then-kind-eq-TFHD
unfolding keys
returns-then-kind-eq-TFHD c =
    further _ _ _ _ _ c.if-kind-eq-TKHD.false (further _ _ _ _ _ c.if-kind-eq-TREX.false (here _ _ _ _ _ c.if-kind-eq-TFHD.true (same_row _ _ _ _ _ _ c.row-fields-then-kind-eq-TFHD.ensures c.last-then-kind-eq-TFHD.ensures)))

pub returns-then-kind-eq-STSZ : goal.returns-then-kind-eq-STSZ
unfolding keys
returns-then-kind-eq-STSZ c =
    further _ _ _ _ _ c.if-kind-eq-TKHD.false (further _ _ _ _ _ c.if-kind-eq-TREX.false (further _ _ _ _ _ c.if-kind-eq-TFHD.false (here _ _ _ _ _ c.if-kind-eq-STSZ.true (same_row _ _ _ _ _ _ c.row-fields-then-kind-eq-STSZ.ensures c.last-then-kind-eq-STSZ.ensures))))

pub returns-then-kind-eq-TRUN : goal.returns-then-kind-eq-TRUN
unfolding keys
returns-then-kind-eq-TRUN c =
    further _ _ _ _ _ c.if-kind-eq-TKHD.false (further _ _ _ _ _ c.if-kind-eq-TREX.false (further _ _ _ _ _ c.if-kind-eq-TFHD.false (further _ _ _ _ _ c.if-kind-eq-STSZ.false (here _ _ _ _ _ c.if-kind-eq-TRUN.true (same_row _ _ _ _ _ _ c.row-fields-then-kind-eq-TRUN.ensures c.last-then-kind-eq-TRUN.ensures)))))

pub returns-then-kind-eq-URL : goal.returns-then-kind-eq-URL
unfolding keys
returns-then-kind-eq-URL c =
    further _ _ _ _ _ c.if-kind-eq-TKHD.false (further _ _ _ _ _ c.if-kind-eq-TREX.false (further _ _ _ _ _ c.if-kind-eq-TFHD.false (further _ _ _ _ _ c.if-kind-eq-STSZ.false (further _ _ _ _ _ c.if-kind-eq-TRUN.false (here _ _ _ _ _ c.if-kind-eq-URL.true (same_row _ _ _ _ _ _ c.row-fields-then-kind-eq-URL.ensures c.last-then-kind-eq-URL.ensures))))))

pub returns : goal.returns
unfolding keys
returns c =
    further _ _ _ _ _ c.if-kind-eq-TKHD.false (further _ _ _ _ _ c.if-kind-eq-TREX.false (further _ _ _ _ _ c.if-kind-eq-TFHD.false (further _ _ _ _ _ c.if-kind-eq-STSZ.false (further _ _ _ _ _ c.if-kind-eq-TRUN.false (further _ _ _ _ _ c.if-kind-eq-URL.false (unkeyed _ _))))))
