-- The types of boxes that are read (ISO/IEC 14496-12 and the standards of the sample entries), as the numbers that
-- their four letters are. Assumes nothing.
use Rattle.std.specs.Prelude.{ℕ}

abbrev pub ftyp : ℕ
ftyp = 0x66747970

abbrev pub moov : ℕ
moov = 0x6d6f6f76

abbrev pub moof : ℕ
moof = 0x6d6f6f66

abbrev pub mdat : ℕ
mdat = 0x6d646174

abbrev pub emsg : ℕ
emsg = 0x656d7367

abbrev pub mvhd : ℕ
mvhd = 0x6d766864

abbrev pub trak : ℕ
trak = 0x7472616b

abbrev pub mvex : ℕ
mvex = 0x6d766578

abbrev pub trex : ℕ
trex = 0x74726578

abbrev pub tkhd : ℕ
tkhd = 0x746b6864

abbrev pub edts : ℕ
edts = 0x65647473

abbrev pub mdia : ℕ
mdia = 0x6d646961

abbrev pub elst : ℕ
elst = 0x656c7374

abbrev pub mdhd : ℕ
mdhd = 0x6d646864

abbrev pub hdlr : ℕ
hdlr = 0x68646c72

abbrev pub minf : ℕ
minf = 0x6d696e66

abbrev pub dinf : ℕ
dinf = 0x64696e66

abbrev pub stbl : ℕ
stbl = 0x7374626c

abbrev pub dref : ℕ
dref = 0x64726566

abbrev pub url : ℕ
url = 0x75726c20

abbrev pub stsd : ℕ
stsd = 0x73747364

abbrev pub stts : ℕ
stts = 0x73747473

abbrev pub ctts : ℕ
ctts = 0x63747473

abbrev pub stsc : ℕ
stsc = 0x73747363

abbrev pub stsz : ℕ
stsz = 0x7374737a

abbrev pub stco : ℕ
stco = 0x7374636f

abbrev pub co64 : ℕ
co64 = 0x636f3634

abbrev pub stss : ℕ
stss = 0x73747373

abbrev pub avc1 : ℕ
avc1 = 0x61766331

abbrev pub mp4a : ℕ
mp4a = 0x6d703461

abbrev pub vp09 : ℕ
vp09 = 0x76703039

abbrev pub tx3g : ℕ
tx3g = 0x74783367

abbrev pub avcc : ℕ
avcc = 0x61766343

abbrev pub esds : ℕ
esds = 0x65736473

abbrev pub vpcc : ℕ
vpcc = 0x76706343

abbrev pub mfhd : ℕ
mfhd = 0x6d666864

abbrev pub traf : ℕ
traf = 0x74726166

abbrev pub tfhd : ℕ
tfhd = 0x74666864

abbrev pub tfdt : ℕ
tfdt = 0x74666474

abbrev pub trun : ℕ
trun = 0x7472756e
