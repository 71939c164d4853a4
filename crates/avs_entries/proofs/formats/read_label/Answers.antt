use Rattle.std.proofs.Common.{◌≡◌, ◌/◌, ℕ, List, length, Result, OnOk, subst, sym, ap, ◌∙◌, arith}
use Rattle.avs_seg.specs.declared.fault.Failed.{Failed}
use Rattle.avs_seg.specs.Image.{range, blocks_of}
use Rattle.avs_dev.specs.Seen.{GoesOn}
use Rattle.avs_code.specs.Label.{IsLabel}
use Rattle.avs_entries.specs.Bitmap.{compact_label, IsNotLabel}
use Rattle.avs_entries.proofs.Formatting.{read_block}
use Rattle.avs_entries.proofs.formats.read_label.Goals as goal

pub returns-in-Ok-clause-label : goal.returns-in-Ok-clause-label
returns-in-Ok-clause-label g c told =
    let image = (g.D.Disk.seen c.args.disk.now).image in
    let shown = subst (λ (r : Result (Unit {0}) Failed). OnOk r (blocks_of c.read.new.out ≡ range image 0 (length c.read.new.out / 512))) c.in_ok-read.was (c.read.ensures.shows told) in
    subst (λ (b : List ℕ). IsLabel b (compact_label c.args.blocks)) (sym (read_block image c.read.new.out (omega (arith, c.read.auto.out)) shown)) c.in-Ok.ensures.ok

pub returns-in-Err-clause-refused : goal.returns-in-Err-clause-refused
returns-in-Err-clause-refused g c =
    let image = (g.D.Disk.seen c.args.disk.now).image in
    let same = (subst (λ (r : Result (Unit {0}) Failed). GoesOn (g.D.Disk.seen c.args.disk.now) r (g.D.Disk.seen c.read.new.self)) c.in_ok-read.was c.read.ensures.goes).done.faults in (
      c.read.ensures.rest ∙ ap (λ (n : ℕ). record (g.D.Disk.seen c.args.disk.now) { faults = n }) same,
      λ told.
          let shown = subst (λ (r : Result (Unit {0}) Failed). OnOk r (blocks_of c.read.new.out ≡ range image 0 (length c.read.new.out / 512))) c.in_ok-read.was (c.read.ensures.shows told) in
          subst (λ (b : List ℕ). IsNotLabel b c.args.blocks c.in-Err.field-0.0) (sym (read_block image c.read.new.out (omega (arith, c.read.auto.out)) shown)) c.in-Err.ensures.bad,
    )
