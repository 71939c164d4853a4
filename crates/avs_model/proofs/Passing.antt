-- What is known where no row of a table refuses.
use Rattle.std.proofs.Common.{◌≡◌, ◌+◌, List, false, not, arith}
use Rattle.std.specs.Prelude.{◌||◌, nat_lt, None, Option, ℕ}
use Rattle.std.proofs.lemmas.Bool.Decides.{nat_tests}
use Rattle.avs_model.specs.declared.event_facts.RangeFacts.{RangeFacts}
use Rattle.avs_model.specs.declared.event_facts.AccessFacts.{AccessFacts}
use Rattle.avs_model.specs.declared.event_facts.MakeFacts.{MakeFacts}
use Rattle.avs_model.specs.declared.event_facts.MoveFacts.{MoveFacts}
use Rattle.avs_model.specs.declared.command_facts.EnableFacts.{EnableFacts}
use Rattle.avs_model.specs.declared.command_facts.UpdateFacts.{UpdateFacts}
use Rattle.avs_model.specs.declared.command_facts.NamedSetFacts.{NamedSetFacts}
use Rattle.avs_model.specs.declared.command_facts.OneSetFacts.{OneSetFacts}
use Rattle.avs_model.specs.declared.command_facts.DisableFacts.{DisableFacts}
use Rattle.avs_model.specs.declared.command_facts.AttachFacts.{AttachFacts}
use Rattle.avs_model.specs.declared.command_facts.OverflowFacts.{OverflowFacts}
use Rattle.avs_model.specs.declared.command_facts.ExportFacts.{ExportFacts}
use Rattle.avs_model.specs.Limits.{largest_number, least_volume, largest_volume, all_volumes, most_group_sets, most_overflows}
use Rattle.avs_model.specs.Rows.{first_row}
use Rattle.avs_model.specs.RangeRows.{place_rows, access_rows, PlacePasses, AccessPasses}
use Rattle.avs_model.specs.EnableRows.{enable_early, enable_late, bitmap_need, EnableStarts, EnablePasses}
use Rattle.avs_model.specs.UpdateRows.{update_rows, UpdatePasses}
use Rattle.avs_model.specs.SetRows.{disable_rows, copy_rows, abort_rows, attach_rows, detach_rows, overflow_rows, export_rows, DisablePasses, CopyPasses, AbortPasses, AttachPasses, DetachPasses, OverflowPasses, ExportPasses}
use Rattle.avs_model.specs.HostRows.{make_rows, move_rows, MakePasses, MovePasses}
use Rattle.avs_model.proofs.Rows.{none_refuse, fails, fails-not, fails-right, fails-not_left, fails-told}

-- ---- reads and writes

pub place_passes : (f : RangeFacts) → first_row (place_rows f) ≡ None → PlacePasses f
place_passes f none =
    let rows = none_refuse (place_rows f) none in
    let len : (nat_lt f.len 1 || nat_lt f.longest f.len) ≡ false = fails _ _ rows.1.1.1.0 in
    let end : nat_lt f.volume.reach (f.at + f.len) ≡ false = fails _ _ rows.1.1.1.1.0 in
    let place : nat_lt largest_number f.place ≡ false = fails _ _ rows.1.1.1.1.1.0 in
    record {
      up = fails-not _ _ rows.0;
      there = fails-not _ _ rows.1.0;
      takes = fails-not_left _ _ _ rows.1.1.0;
      keeps = fails-right _ _ _ rows.1.1.0;
      some = grind (arith, nat_tests);
      most = grind (arith, nat_tests);
      inside = grind (arith, nat_tests);
      place = grind (arith, nat_tests);
    }

pub access_passes : (f : AccessFacts) → first_row (access_rows f) ≡ None → AccessPasses f
access_passes f none =
    let rows = none_refuse (access_rows f) none in
    record {
      here = fails _ _ rows.0;
      half = fails-told _ _ rows.1.0;
      filled = fails _ _ rows.1.1.0;
      online = fails-told _ _ rows.1.1.1.0;
    }

-- ---- enabling

pub enable_starts : (f : EnableFacts) → first_row (enable_early f) ≡ None → EnableStarts f
enable_starts f none =
    let rows = none_refuse (enable_early f) none in
    record {
      up = fails-not _ _ rows.0;
      there = fails-not _ _ rows.1.0;
      leads = fails-not _ _ rows.1.1.0;
      shadow_plain = fails-not_left _ _ _ rows.1.1.1.0;
      shadow_once = fails-right _ _ _ rows.1.1.1.0;
    }

pub enable_passes : (f : EnableFacts) (stamp : Option ℕ) → first_row (enable_late f stamp) ≡ None → EnablePasses f
enable_passes f stamp none =
    let rows = none_refuse (enable_late f stamp) none in
    let size : nat_lt f.bitmap.blocks (bitmap_need f) ≡ false = fails _ _ rows.1.1.1.0 in
    let sets : not (nat_lt f.group.sets most_group_sets) ≡ false = fails _ _ rows.1.1.1.1.0 in
    let back : nat_lt 0 f.back ≡ false = fails _ _ rows.1.1.1.1.1.1.1.0 in
    record {
      bitmap_plain = fails-not_left _ _ _ rows.1.0;
      bitmap_once = fails-right _ _ _ rows.1.0;
      large = fails _ _ rows.1.1.0;
      noted = grind (arith, nat_tests);
      room = grind (arith, nat_tests);
      same = fails _ _ rows.1.1.1.1.1.1.0;
      back = grind (arith, nat_tests);
      filled = fails _ _ rows.1.1.1.1.1.1.1.1.0;
    }

-- ---- updates

pub update_passes : (f : UpdateFacts) (sets : List NamedSetFacts) → first_row (update_rows f sets) ≡ None → UpdatePasses f sets
update_passes f sets none =
    let rows = none_refuse (update_rows f sets) none in
    record {
      up = fails-not _ _ rows.0;
      there = rows.1.0;
      group = fails-not _ _ rows.1.1.0;
      allowed = rows.1.1.1.0;
      here = rows.1.1.1.1.0;
      half = rows.1.1.1.1.1.0;
      back = rows.1.1.1.1.1.1.0;
      filled = rows.1.1.1.1.1.1.1.0;
      online = rows.1.1.1.1.1.1.1.1.0;
    }

-- ---- one set

pub disable_passes : (f : DisableFacts) → first_row (disable_rows f) ≡ None → DisablePasses f
disable_passes f none =
    let rows = none_refuse (disable_rows f) none in
    record {
      up = fails-not _ _ rows.0;
      there = fails _ _ rows.1.0;
      here = fails _ _ rows.1.1.0;
      back = fails _ _ rows.1.1.1.0;
      left = fails _ _ rows.1.1.1.1.0;
    }

pub copy_passes : (f : OneSetFacts) → first_row (copy_rows f) ≡ None → CopyPasses f
copy_passes f none =
    let rows = none_refuse (copy_rows f) none in
    record { up = fails-not _ _ rows.0; there = fails-not _ _ rows.1.0; here = fails _ _ rows.1.1.0; goes = fails _ _ rows.1.1.1.0 }

pub abort_passes : (f : OneSetFacts) → first_row (abort_rows f) ≡ None → AbortPasses f
abort_passes f none =
    let rows = none_refuse (abort_rows f) none in
    record { up = fails-not _ _ rows.0; there = fails-not _ _ rows.1.0; online = fails-told _ _ rows.1.1.0 }

pub attach_passes : (f : AttachFacts) → first_row (attach_rows f) ≡ None → AttachPasses f
attach_passes f none =
    let rows = none_refuse (attach_rows f) none in
    record {
      up = fails-not _ _ rows.0;
      volume = fails-not _ _ rows.1.0;
      there = fails-not _ _ rows.1.1.0;
      serves = fails-not_left _ _ _ rows.1.1.1.0;
      own = fails-right _ _ _ rows.1.1.1.0;
      small = fails-not _ _ rows.1.1.1.1.0;
      free = fails _ _ rows.1.1.1.1.1.0;
      online = fails-told _ _ rows.1.1.1.1.1.1.0;
    }

pub detach_passes : (f : OneSetFacts) → first_row (detach_rows f) ≡ None → DetachPasses f
detach_passes f none =
    let rows = none_refuse (detach_rows f) none in
    let used : nat_lt 0 f.set.used ≡ false = fails _ _ rows.1.1.1.0 in
    record {
      up = fails-not _ _ rows.0;
      there = fails-not _ _ rows.1.0;
      attached = fails-not _ _ rows.1.1.0;
      unused = grind (arith, nat_tests);
      online = fails-told _ _ rows.1.1.1.1.0;
    }

pub overflow_passes : (f : OverflowFacts) → first_row (overflow_rows f) ≡ None → OverflowPasses f
overflow_passes f none =
    let rows = none_refuse (overflow_rows f) none in
    let room : not (nat_lt f.overflows most_overflows) ≡ false = fails _ _ rows.1.1.1.0 in
    record { up = fails-not _ _ rows.0; there = fails-not _ _ rows.1.0; plain = fails-not _ _ rows.1.1.0; room = grind (arith, nat_tests) }

pub export_passes : (f : ExportFacts) → first_row (export_rows f) ≡ None → ExportPasses f
export_passes f none =
    let rows = none_refuse (export_rows f) none in
    let stamp : nat_lt largest_number f.stamp ≡ false = fails _ _ rows.1.1.0 in
    let back : nat_lt 0 f.set.back ≡ false = fails _ _ rows.1.1.1.1.1.0 in
    let left : nat_lt 0 f.set.left ≡ false = fails _ _ rows.1.1.1.1.1.1.0 in
    record {
      up = fails-not _ _ rows.0;
      there = fails-not _ _ rows.1.0;
      stamp = grind (arith, nat_tests);
      here = fails _ _ rows.1.1.1.0;
      whole = fails-not _ _ rows.1.1.1.1.0;
      back = grind (arith, nat_tests);
      left = grind (arith, nat_tests);
    }

-- ---- hosts

pub make_passes : (f : MakeFacts) → first_row (make_rows f) ≡ None → MakePasses f
make_passes f none =
    let rows = none_refuse (make_rows f) none in
    let least : nat_lt f.blocks least_volume ≡ false = fails _ _ rows.1.1.0 in
    let most : nat_lt largest_volume f.blocks ≡ false = fails _ _ rows.1.1.1.0 in
    let all : nat_lt all_volumes (f.all_blocks + f.blocks) ≡ false = fails _ _ rows.1.1.1.1.0 in
    record {
      up = fails-not _ _ rows.0;
      free = fails _ _ rows.1.0;
      least = grind (arith, nat_tests);
      most = grind (arith, nat_tests);
      all = grind (arith, nat_tests);
    }

pub move_passes : (f : MoveFacts) → first_row (move_rows f) ≡ None → MovePasses f
move_passes f none =
    let rows = none_refuse (move_rows f) none in
    record { up = fails-not _ _ rows.0; other_up = fails-not _ _ rows.1.0; there = fails-not _ _ rows.1.1.0; free = fails _ _ rows.1.1.1.0 }
