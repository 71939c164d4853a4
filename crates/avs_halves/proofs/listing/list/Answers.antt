use Rattle.std.proofs.Common.{◌∙◌, arith}
use Rattle.avs_bits.specs.BitSet.{set_of}
use Rattle.avs_halves.proofs.Finding.{found_more, found_end}
use Rattle.avs_halves.proofs.listing.list.Goals as goal

pub loop-seg-preserved : goal.loop-seg-preserved
loop-seg-preserved g c =
    let f = c.in-Some.ensures.found in
    record {
      within = omega (arith, f.1.1);
      found = c.in_ok-push.ensures.ok ∙ found_more (set_of c.args.bits.now) c.args.bits.now.segs c.loop-seg.from c.loop-seg.found c.loop-seg.invariant.found c.in-Some.seg f.1.0 f.1.1 f.0 c.in-Some.ensures.least;
    }

pub returns : goal.returns
returns g c = found_end (set_of c.args.bits.now) c.args.bits.now.segs c.loop-seg.from c.loop-seg.found c.loop-seg.invariant.found c.loop-seg.invariant.within c.in_default.ensures.none
