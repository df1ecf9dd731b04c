-- Worked examples of a lane that goes on, and of where it ends, on the bytes of tables' own examples. Assumes nothing.
use mathlib.Core.Path.{◌≡◌, refl}
use mathlib.Core.Bool.{true, false}
use lib.IntN.{pos}
use Rattle.numbers.specs.Number.{be, bytes}
use Rattle.numbers.specs.Field.{field, when}
use Rattle.signed.specs.Signed.{signed}
use Rattle.samples.specs.Lists.{view, none, over, one}
use Rattle.tables.specs.Tables.{pair_at, group_at, offset_at, size_at, number_at}
use Rattle.tables.proofs.Vectors.{file, track, high}
use Rattle.lanes.specs.Lane.{runs_at, places_at, marks_left, syncs_left, left, fresh}
use Rattle.lanes.specs.Site as site
use Rattle.lanes.specs.declared.Lane.{Lane}
use Rattle.lanes.specs.declared.site.Site.{Site}

-- two samples were given
abbrev after_two : Lane
after_two = record {
  done = 2;
  time = 2000;
  times = record { next = 1; left = 1; value = 1000 };
  shifts = record { next = 2; left = 0; value = 0xffff_fffe };
  syncs = record { next = 2; number = 4 };
  place = record { left = 0; at = 78; chunk = 1; groups = record { next = 1; left = 1; value = 2 } };
}

abbrev after-three : Lane
after-three = record {
  done = 3;
  time = 3000;
  times = record { next = 1; left = 0; value = 1000 };
  shifts = record { next = 2; left = 0; value = 0xffff_fffe };
  syncs = record { next = 2; number = 4 };
  place = record { left = 1; at = 108; chunk = 2; groups = record { next = 1; left = 0; value = 2 } };
}

lane-third : view (left file track after_two)
    ≡ one (record { number = 3; offset = 78; size = 30; time = 2000; duration = 1000; composition = pos 0; sync = false }) (left file track after-three)
unfolding be bytes field when signed pair_at group_at offset_at size_at number_at left runs_at places_at marks_left syncs_left
lane-third = refl

abbrev after-six : Lane
after-six = record {
  done = 6;
  time = 4500;
  times = record { next = 2; left = 0; value = 500 };
  shifts = record { next = 2; left = 0; value = 0xffff_fffe };
  syncs = record { next = 2; number = 0 };
  place = record { left = 0; at = 258; chunk = 4; groups = record { next = 2; left = 0; value = 1 } };
}

lane-end : view (left file track after-six) ≡ none
unfolding be bytes field when signed pair_at group_at offset_at size_at number_at left runs_at places_at marks_left syncs_left
lane-end = refl

abbrev after_one : Lane
after_one = record {
  done = 1;
  time = 1000;
  times = record { next = 1; left = 2; value = 1000 };
  shifts = record { next = 0; left = 0; value = 0 };
  syncs = record { next = 0; number = 0 };
  place = record { left = 1; at = 0xffff_ffff_ffff_fffa; chunk = 1; groups = record { next = 1; left = 0; value = 2 } };
}

-- the first sample ends before 2^64; the second one does not
lane-first-held : view (left file high fresh)
    ≡ one (record { number = 1; offset = 0xffff_ffff_ffff_fff0; size = 10; time = 0; duration = 1000; composition = pos 0; sync = true }) (left file high after_one)
unfolding be bytes field when signed pair_at group_at offset_at size_at number_at left runs_at places_at marks_left syncs_left
lane-first-held = refl

lane_over : view (left file high after_one) ≡ over
unfolding be bytes field when signed pair_at group_at offset_at size_at number_at left runs_at places_at marks_left syncs_left
lane_over = refl

-- PLACES ALONE

abbrev site-two : Site
site-two = record { done = 2; place = after_two.place }

-- the third sample is told by its number, place and size
site-third : view (site.left file track site-two) ≡ one (site.sample 3 78 30) (site.left file track (record { done = 3; place = after-three.place }))
unfolding be bytes field when group_at offset_at size_at runs_at places_at site.left
site-third = refl

site-end : view (site.left file track (record { done = 6; place = after-six.place })) ≡ none
unfolding be bytes field when group_at offset_at size_at runs_at places_at site.left
site-end = refl

site-over : view (site.left file high (record { done = 1; place = after_one.place })) ≡ over
unfolding be bytes field when group_at offset_at size_at runs_at places_at site.left
site-over = refl

-- stts has no part in it: with two samples timed, the third still has its place
site-untimed : view (site.left file (record { stts = record { at = 0; count = 0 }; ctts = track.ctts; stsc = track.stsc; stsz = track.stsz; stco = track.stco; stss = track.stss }) site-two)
    ≡ one (site.sample 3 78 30) (site.left file track (record { done = 3; place = after-three.place }))
unfolding be bytes field when group_at offset_at size_at runs_at places_at site.left
site-untimed = refl
