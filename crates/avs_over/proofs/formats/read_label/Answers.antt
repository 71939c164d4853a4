use Rattle.std.proofs.Common.{◌≡◌, ◌/◌, List, ℕ, length, Result, Ok, OnOk, subst, sym, inl, inr, arith}
use Rattle.avs_seg.specs.declared.fault.Failed.{Failed}
use Rattle.avs_seg.specs.Image.{range, blocks_of}
use Rattle.avs_code.specs.Label.{IsLabel, IsBadLabel}
use Rattle.avs_over.specs.Over.{over_label, over_use}
use Rattle.avs_over.proofs.Labels.{first_read, kept}
use Rattle.avs_dev.specs.Seen.{Seen, GoesOn}
use Rattle.avs_over.proofs.formats.read_label.Goals as goal

same : {T E : Type 0} (old new : Seen) (r : Result T E) (x : T) → r ≡ Ok x → new ≡ record old { faults = new.faults } → GoesOn old r new → new ≡ old
same {T} {E} old new r x is rest goes = kept old new rest (subst (λ (q : Result T E). GoesOn old q new) is goes).done.faults

pub returns-in-Ok-clause-kept : goal.returns-in-Ok-clause-kept
returns-in-Ok-clause-kept g c = same (g.D.Disk.seen c.args.disk.now) (g.D.Disk.seen c.read.new.self) c.read.result c.in_ok-read.field-0 c.in_ok-read.was c.read.ensures.rest c.read.ensures.goes

pub returns-in-Ok-clause-labelled : goal.returns-in-Ok-clause-labelled
returns-in-Ok-clause-labelled g c told =
    let image = (g.D.Disk.seen c.args.disk.now).image in
    let shown = subst (λ (r : Result (Unit {0}) Failed). OnOk r (blocks_of c.read.new.out ≡ range image 0 (length c.read.new.out / 512))) c.in_ok-read.was (c.read.ensures.shows told) in
    subst (λ (b : List ℕ). IsLabel b over_label) (sym (first_read image c.read.new.out (omega (arith, c.read.auto.out)) shown)) c.in-Ok.ensures.ok

pub returns-in-Err-clause-refused : goal.returns-in-Err-clause-refused
returns-in-Err-clause-refused g c taken =
    let image = (g.D.Disk.seen c.args.disk.now).image in (
      same (g.D.Disk.seen c.args.disk.now) (g.D.Disk.seen c.read.new.self) c.read.result c.in_ok-read.field-0 c.in_ok-read.was c.read.ensures.rest c.read.ensures.goes,
      inr (inl (record {
        some = c.requires;
        bad = λ told.
            let shown = subst (λ (r : Result (Unit {0}) Failed). OnOk r (blocks_of c.read.new.out ≡ range image 0 (length c.read.new.out / 512))) c.in_ok-read.was (c.read.ensures.shows told) in
            subst (λ (b : List ℕ). IsBadLabel b over_use c.in-Err.field-0.0) (sym (first_read image c.read.new.out (omega (arith, c.read.auto.out)) shown)) c.in-Err.ensures.bad;
      })),
    )
