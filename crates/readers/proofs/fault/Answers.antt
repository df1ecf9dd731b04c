use Rattle.readers.specs.Readers.{readers}
use Rattle.codings.proofs.Picks.{here, further, unread}
use Rattle.readers.proofs.fault.Goals as goal

pub returns-then-kind-eq-EMSG : goal.returns-then-kind-eq-EMSG
unfolding readers
returns-then-kind-eq-EMSG c =
    here _ _ _ _ _ _ c.if-kind-eq-EMSG.true c.emsg.ensures

pub returns-then-kind-eq-TREX : goal.returns-then-kind-eq-TREX
unfolding readers
returns-then-kind-eq-TREX c =
    further _ _ _ _ _ _ c.if-kind-eq-EMSG.false (here _ _ _ _ _ _ c.if-kind-eq-TREX.true c.trex.ensures)

pub returns-then-kind-eq-TKHD : goal.returns-then-kind-eq-TKHD
unfolding readers
returns-then-kind-eq-TKHD c =
    further _ _ _ _ _ _ c.if-kind-eq-EMSG.false (further _ _ _ _ _ _ c.if-kind-eq-TREX.false (here _ _ _ _ _ _ c.if-kind-eq-TKHD.true c.tkhd.ensures))

pub returns-then-kind-eq-ELST : goal.returns-then-kind-eq-ELST
unfolding readers
returns-then-kind-eq-ELST c =
    further _ _ _ _ _ _ c.if-kind-eq-EMSG.false (further _ _ _ _ _ _ c.if-kind-eq-TREX.false (further _ _ _ _ _ _ c.if-kind-eq-TKHD.false (here _ _ _ _ _ _ c.if-kind-eq-ELST.true c.elst.ensures)))

pub returns-then-kind-eq-MDHD : goal.returns-then-kind-eq-MDHD
unfolding readers
returns-then-kind-eq-MDHD c =
    further _ _ _ _ _ _ c.if-kind-eq-EMSG.false (further _ _ _ _ _ _ c.if-kind-eq-TREX.false (further _ _ _ _ _ _ c.if-kind-eq-TKHD.false (further _ _ _ _ _ _ c.if-kind-eq-ELST.false (here _ _ _ _ _ _ c.if-kind-eq-MDHD.true c.mdhd.ensures))))

pub returns-then-kind-eq-HDLR : goal.returns-then-kind-eq-HDLR
unfolding readers
returns-then-kind-eq-HDLR c =
    further _ _ _ _ _ _ c.if-kind-eq-EMSG.false (further _ _ _ _ _ _ c.if-kind-eq-TREX.false (further _ _ _ _ _ _ c.if-kind-eq-TKHD.false (further _ _ _ _ _ _ c.if-kind-eq-ELST.false (further _ _ _ _ _ _ c.if-kind-eq-MDHD.false (here _ _ _ _ _ _ c.if-kind-eq-HDLR.true c.hdlr.ensures)))))

pub returns-then-kind-eq-DREF : goal.returns-then-kind-eq-DREF
unfolding readers
returns-then-kind-eq-DREF c =
    further _ _ _ _ _ _ c.if-kind-eq-EMSG.false (further _ _ _ _ _ _ c.if-kind-eq-TREX.false (further _ _ _ _ _ _ c.if-kind-eq-TKHD.false (further _ _ _ _ _ _ c.if-kind-eq-ELST.false (further _ _ _ _ _ _ c.if-kind-eq-MDHD.false (further _ _ _ _ _ _ c.if-kind-eq-HDLR.false (here _ _ _ _ _ _ c.if-kind-eq-DREF.true c.dref.ensures))))))

pub returns-then-kind-eq-URL : goal.returns-then-kind-eq-URL
unfolding readers
returns-then-kind-eq-URL c =
    further _ _ _ _ _ _ c.if-kind-eq-EMSG.false (further _ _ _ _ _ _ c.if-kind-eq-TREX.false (further _ _ _ _ _ _ c.if-kind-eq-TKHD.false (further _ _ _ _ _ _ c.if-kind-eq-ELST.false (further _ _ _ _ _ _ c.if-kind-eq-MDHD.false (further _ _ _ _ _ _ c.if-kind-eq-HDLR.false (further _ _ _ _ _ _ c.if-kind-eq-DREF.false (here _ _ _ _ _ _ c.if-kind-eq-URL.true c.url.ensures)))))))

pub returns-then-kind-eq-STSD : goal.returns-then-kind-eq-STSD
unfolding readers
returns-then-kind-eq-STSD c =
    further _ _ _ _ _ _ c.if-kind-eq-EMSG.false (further _ _ _ _ _ _ c.if-kind-eq-TREX.false (further _ _ _ _ _ _ c.if-kind-eq-TKHD.false (further _ _ _ _ _ _ c.if-kind-eq-ELST.false (further _ _ _ _ _ _ c.if-kind-eq-MDHD.false (further _ _ _ _ _ _ c.if-kind-eq-HDLR.false (further _ _ _ _ _ _ c.if-kind-eq-DREF.false (further _ _ _ _ _ _ c.if-kind-eq-URL.false (here _ _ _ _ _ _ c.if-kind-eq-STSD.true c.stsd.ensures))))))))

pub returns-then-kind-eq-STTS : goal.returns-then-kind-eq-STTS
unfolding readers
returns-then-kind-eq-STTS c =
    further _ _ _ _ _ _ c.if-kind-eq-EMSG.false (further _ _ _ _ _ _ c.if-kind-eq-TREX.false (further _ _ _ _ _ _ c.if-kind-eq-TKHD.false (further _ _ _ _ _ _ c.if-kind-eq-ELST.false (further _ _ _ _ _ _ c.if-kind-eq-MDHD.false (further _ _ _ _ _ _ c.if-kind-eq-HDLR.false (further _ _ _ _ _ _ c.if-kind-eq-DREF.false (further _ _ _ _ _ _ c.if-kind-eq-URL.false (further _ _ _ _ _ _ c.if-kind-eq-STSD.false (here _ _ _ _ _ _ c.if-kind-eq-STTS.true c.stts.ensures)))))))))

pub returns-then-kind-eq-CTTS : goal.returns-then-kind-eq-CTTS
unfolding readers
returns-then-kind-eq-CTTS c =
    further _ _ _ _ _ _ c.if-kind-eq-EMSG.false (further _ _ _ _ _ _ c.if-kind-eq-TREX.false (further _ _ _ _ _ _ c.if-kind-eq-TKHD.false (further _ _ _ _ _ _ c.if-kind-eq-ELST.false (further _ _ _ _ _ _ c.if-kind-eq-MDHD.false (further _ _ _ _ _ _ c.if-kind-eq-HDLR.false (further _ _ _ _ _ _ c.if-kind-eq-DREF.false (further _ _ _ _ _ _ c.if-kind-eq-URL.false (further _ _ _ _ _ _ c.if-kind-eq-STSD.false (further _ _ _ _ _ _ c.if-kind-eq-STTS.false (here _ _ _ _ _ _ c.if-kind-eq-CTTS.true c.ctts.ensures))))))))))

pub returns-then-kind-eq-STSC : goal.returns-then-kind-eq-STSC
unfolding readers
returns-then-kind-eq-STSC c =
    further _ _ _ _ _ _ c.if-kind-eq-EMSG.false (further _ _ _ _ _ _ c.if-kind-eq-TREX.false (further _ _ _ _ _ _ c.if-kind-eq-TKHD.false (further _ _ _ _ _ _ c.if-kind-eq-ELST.false (further _ _ _ _ _ _ c.if-kind-eq-MDHD.false (further _ _ _ _ _ _ c.if-kind-eq-HDLR.false (further _ _ _ _ _ _ c.if-kind-eq-DREF.false (further _ _ _ _ _ _ c.if-kind-eq-URL.false (further _ _ _ _ _ _ c.if-kind-eq-STSD.false (further _ _ _ _ _ _ c.if-kind-eq-STTS.false (further _ _ _ _ _ _ c.if-kind-eq-CTTS.false (here _ _ _ _ _ _ c.if-kind-eq-STSC.true c.stsc.ensures)))))))))))

pub returns-then-kind-eq-STSZ : goal.returns-then-kind-eq-STSZ
unfolding readers
returns-then-kind-eq-STSZ c =
    further _ _ _ _ _ _ c.if-kind-eq-EMSG.false (further _ _ _ _ _ _ c.if-kind-eq-TREX.false (further _ _ _ _ _ _ c.if-kind-eq-TKHD.false (further _ _ _ _ _ _ c.if-kind-eq-ELST.false (further _ _ _ _ _ _ c.if-kind-eq-MDHD.false (further _ _ _ _ _ _ c.if-kind-eq-HDLR.false (further _ _ _ _ _ _ c.if-kind-eq-DREF.false (further _ _ _ _ _ _ c.if-kind-eq-URL.false (further _ _ _ _ _ _ c.if-kind-eq-STSD.false (further _ _ _ _ _ _ c.if-kind-eq-STTS.false (further _ _ _ _ _ _ c.if-kind-eq-CTTS.false (further _ _ _ _ _ _ c.if-kind-eq-STSC.false (here _ _ _ _ _ _ c.if-kind-eq-STSZ.true c.stsz.ensures))))))))))))

pub returns-then-kind-eq-STCO : goal.returns-then-kind-eq-STCO
unfolding readers
returns-then-kind-eq-STCO c =
    further _ _ _ _ _ _ c.if-kind-eq-EMSG.false (further _ _ _ _ _ _ c.if-kind-eq-TREX.false (further _ _ _ _ _ _ c.if-kind-eq-TKHD.false (further _ _ _ _ _ _ c.if-kind-eq-ELST.false (further _ _ _ _ _ _ c.if-kind-eq-MDHD.false (further _ _ _ _ _ _ c.if-kind-eq-HDLR.false (further _ _ _ _ _ _ c.if-kind-eq-DREF.false (further _ _ _ _ _ _ c.if-kind-eq-URL.false (further _ _ _ _ _ _ c.if-kind-eq-STSD.false (further _ _ _ _ _ _ c.if-kind-eq-STTS.false (further _ _ _ _ _ _ c.if-kind-eq-CTTS.false (further _ _ _ _ _ _ c.if-kind-eq-STSC.false (further _ _ _ _ _ _ c.if-kind-eq-STSZ.false (here _ _ _ _ _ _ c.if-kind-eq-STCO.true c.stco.ensures)))))))))))))

pub returns-then-kind-eq-CO64 : goal.returns-then-kind-eq-CO64
unfolding readers
returns-then-kind-eq-CO64 c =
    further _ _ _ _ _ _ c.if-kind-eq-EMSG.false (further _ _ _ _ _ _ c.if-kind-eq-TREX.false (further _ _ _ _ _ _ c.if-kind-eq-TKHD.false (further _ _ _ _ _ _ c.if-kind-eq-ELST.false (further _ _ _ _ _ _ c.if-kind-eq-MDHD.false (further _ _ _ _ _ _ c.if-kind-eq-HDLR.false (further _ _ _ _ _ _ c.if-kind-eq-DREF.false (further _ _ _ _ _ _ c.if-kind-eq-URL.false (further _ _ _ _ _ _ c.if-kind-eq-STSD.false (further _ _ _ _ _ _ c.if-kind-eq-STTS.false (further _ _ _ _ _ _ c.if-kind-eq-CTTS.false (further _ _ _ _ _ _ c.if-kind-eq-STSC.false (further _ _ _ _ _ _ c.if-kind-eq-STSZ.false (further _ _ _ _ _ _ c.if-kind-eq-STCO.false (here _ _ _ _ _ _ c.if-kind-eq-CO64.true c.co64.ensures))))))))))))))

pub returns-then-kind-eq-STSS : goal.returns-then-kind-eq-STSS
unfolding readers
returns-then-kind-eq-STSS c =
    further _ _ _ _ _ _ c.if-kind-eq-EMSG.false (further _ _ _ _ _ _ c.if-kind-eq-TREX.false (further _ _ _ _ _ _ c.if-kind-eq-TKHD.false (further _ _ _ _ _ _ c.if-kind-eq-ELST.false (further _ _ _ _ _ _ c.if-kind-eq-MDHD.false (further _ _ _ _ _ _ c.if-kind-eq-HDLR.false (further _ _ _ _ _ _ c.if-kind-eq-DREF.false (further _ _ _ _ _ _ c.if-kind-eq-URL.false (further _ _ _ _ _ _ c.if-kind-eq-STSD.false (further _ _ _ _ _ _ c.if-kind-eq-STTS.false (further _ _ _ _ _ _ c.if-kind-eq-CTTS.false (further _ _ _ _ _ _ c.if-kind-eq-STSC.false (further _ _ _ _ _ _ c.if-kind-eq-STSZ.false (further _ _ _ _ _ _ c.if-kind-eq-STCO.false (further _ _ _ _ _ _ c.if-kind-eq-CO64.false (here _ _ _ _ _ _ c.if-kind-eq-STSS.true c.stss.ensures)))))))))))))))

pub returns-then-kind-eq-MFHD : goal.returns-then-kind-eq-MFHD
unfolding readers
returns-then-kind-eq-MFHD c =
    further _ _ _ _ _ _ c.if-kind-eq-EMSG.false (further _ _ _ _ _ _ c.if-kind-eq-TREX.false (further _ _ _ _ _ _ c.if-kind-eq-TKHD.false (further _ _ _ _ _ _ c.if-kind-eq-ELST.false (further _ _ _ _ _ _ c.if-kind-eq-MDHD.false (further _ _ _ _ _ _ c.if-kind-eq-HDLR.false (further _ _ _ _ _ _ c.if-kind-eq-DREF.false (further _ _ _ _ _ _ c.if-kind-eq-URL.false (further _ _ _ _ _ _ c.if-kind-eq-STSD.false (further _ _ _ _ _ _ c.if-kind-eq-STTS.false (further _ _ _ _ _ _ c.if-kind-eq-CTTS.false (further _ _ _ _ _ _ c.if-kind-eq-STSC.false (further _ _ _ _ _ _ c.if-kind-eq-STSZ.false (further _ _ _ _ _ _ c.if-kind-eq-STCO.false (further _ _ _ _ _ _ c.if-kind-eq-CO64.false (further _ _ _ _ _ _ c.if-kind-eq-STSS.false (here _ _ _ _ _ _ c.if-kind-eq-MFHD.true c.mfhd.ensures))))))))))))))))

pub returns-then-kind-eq-TFHD : goal.returns-then-kind-eq-TFHD
unfolding readers
returns-then-kind-eq-TFHD c =
    further _ _ _ _ _ _ c.if-kind-eq-EMSG.false (further _ _ _ _ _ _ c.if-kind-eq-TREX.false (further _ _ _ _ _ _ c.if-kind-eq-TKHD.false (further _ _ _ _ _ _ c.if-kind-eq-ELST.false (further _ _ _ _ _ _ c.if-kind-eq-MDHD.false (further _ _ _ _ _ _ c.if-kind-eq-HDLR.false (further _ _ _ _ _ _ c.if-kind-eq-DREF.false (further _ _ _ _ _ _ c.if-kind-eq-URL.false (further _ _ _ _ _ _ c.if-kind-eq-STSD.false (further _ _ _ _ _ _ c.if-kind-eq-STTS.false (further _ _ _ _ _ _ c.if-kind-eq-CTTS.false (further _ _ _ _ _ _ c.if-kind-eq-STSC.false (further _ _ _ _ _ _ c.if-kind-eq-STSZ.false (further _ _ _ _ _ _ c.if-kind-eq-STCO.false (further _ _ _ _ _ _ c.if-kind-eq-CO64.false (further _ _ _ _ _ _ c.if-kind-eq-STSS.false (further _ _ _ _ _ _ c.if-kind-eq-MFHD.false (here _ _ _ _ _ _ c.if-kind-eq-TFHD.true c.tfhd.ensures)))))))))))))))))

pub returns-then-kind-eq-TFDT : goal.returns-then-kind-eq-TFDT
unfolding readers
returns-then-kind-eq-TFDT c =
    further _ _ _ _ _ _ c.if-kind-eq-EMSG.false (further _ _ _ _ _ _ c.if-kind-eq-TREX.false (further _ _ _ _ _ _ c.if-kind-eq-TKHD.false (further _ _ _ _ _ _ c.if-kind-eq-ELST.false (further _ _ _ _ _ _ c.if-kind-eq-MDHD.false (further _ _ _ _ _ _ c.if-kind-eq-HDLR.false (further _ _ _ _ _ _ c.if-kind-eq-DREF.false (further _ _ _ _ _ _ c.if-kind-eq-URL.false (further _ _ _ _ _ _ c.if-kind-eq-STSD.false (further _ _ _ _ _ _ c.if-kind-eq-STTS.false (further _ _ _ _ _ _ c.if-kind-eq-CTTS.false (further _ _ _ _ _ _ c.if-kind-eq-STSC.false (further _ _ _ _ _ _ c.if-kind-eq-STSZ.false (further _ _ _ _ _ _ c.if-kind-eq-STCO.false (further _ _ _ _ _ _ c.if-kind-eq-CO64.false (further _ _ _ _ _ _ c.if-kind-eq-STSS.false (further _ _ _ _ _ _ c.if-kind-eq-MFHD.false (further _ _ _ _ _ _ c.if-kind-eq-TFHD.false (here _ _ _ _ _ _ c.if-kind-eq-TFDT.true c.tfdt.ensures))))))))))))))))))

pub returns-then-kind-eq-TRUN : goal.returns-then-kind-eq-TRUN
unfolding readers
returns-then-kind-eq-TRUN c =
    further _ _ _ _ _ _ c.if-kind-eq-EMSG.false (further _ _ _ _ _ _ c.if-kind-eq-TREX.false (further _ _ _ _ _ _ c.if-kind-eq-TKHD.false (further _ _ _ _ _ _ c.if-kind-eq-ELST.false (further _ _ _ _ _ _ c.if-kind-eq-MDHD.false (further _ _ _ _ _ _ c.if-kind-eq-HDLR.false (further _ _ _ _ _ _ c.if-kind-eq-DREF.false (further _ _ _ _ _ _ c.if-kind-eq-URL.false (further _ _ _ _ _ _ c.if-kind-eq-STSD.false (further _ _ _ _ _ _ c.if-kind-eq-STTS.false (further _ _ _ _ _ _ c.if-kind-eq-CTTS.false (further _ _ _ _ _ _ c.if-kind-eq-STSC.false (further _ _ _ _ _ _ c.if-kind-eq-STSZ.false (further _ _ _ _ _ _ c.if-kind-eq-STCO.false (further _ _ _ _ _ _ c.if-kind-eq-CO64.false (further _ _ _ _ _ _ c.if-kind-eq-STSS.false (further _ _ _ _ _ _ c.if-kind-eq-MFHD.false (further _ _ _ _ _ _ c.if-kind-eq-TFHD.false (further _ _ _ _ _ _ c.if-kind-eq-TFDT.false (here _ _ _ _ _ _ c.if-kind-eq-TRUN.true c.trun.ensures)))))))))))))))))))

pub returns : goal.returns
unfolding readers
returns c =
    further _ _ _ _ _ _ c.if-kind-eq-EMSG.false (further _ _ _ _ _ _ c.if-kind-eq-TREX.false (further _ _ _ _ _ _ c.if-kind-eq-TKHD.false (further _ _ _ _ _ _ c.if-kind-eq-ELST.false (further _ _ _ _ _ _ c.if-kind-eq-MDHD.false (further _ _ _ _ _ _ c.if-kind-eq-HDLR.false (further _ _ _ _ _ _ c.if-kind-eq-DREF.false (further _ _ _ _ _ _ c.if-kind-eq-URL.false (further _ _ _ _ _ _ c.if-kind-eq-STSD.false (further _ _ _ _ _ _ c.if-kind-eq-STTS.false (further _ _ _ _ _ _ c.if-kind-eq-CTTS.false (further _ _ _ _ _ _ c.if-kind-eq-STSC.false (further _ _ _ _ _ _ c.if-kind-eq-STSZ.false (further _ _ _ _ _ _ c.if-kind-eq-STCO.false (further _ _ _ _ _ _ c.if-kind-eq-CO64.false (further _ _ _ _ _ _ c.if-kind-eq-STSS.false (further _ _ _ _ _ _ c.if-kind-eq-MFHD.false (further _ _ _ _ _ _ c.if-kind-eq-TFHD.false (further _ _ _ _ _ _ c.if-kind-eq-TFDT.false (further _ _ _ _ _ _ c.if-kind-eq-TRUN.false (unread _ _ _ _ c.fault.ensures))))))))))))))))))))
