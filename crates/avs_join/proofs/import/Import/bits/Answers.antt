use Rattle.std.proofs.Common.{ℕ, List, [], ◌∷◌, ◌++◌, sym, ◌∙◌, ap, arith}
use Rattle.avs_bits.specs.BitSet.{set_of}
use Rattle.avs_join.proofs.Listing.{takes, none_between, listed_known}
use Rattle.avs_join.proofs.import.Import.bits.Goals as goal

pub loop-seg-smaller : goal.loop-seg-smaller
loop-seg-smaller g c = let found = c.in-Some.ensures.found in omega (arith, found.1.0, found.1.1)

pub loop-seg-preserved : goal.loop-seg-preserved
loop-seg-preserved g c =
    let set = set_of c.self.inside.bits in
    let found = c.in-Some.ensures.found in (
      c.in_ok-push.ensures.ok ∙ ap (λ (l : List ℕ). l ++ c.in-Some.seg ∷ []) c.loop-seg.invariant.0 ∙ sym (takes set c.loop-seg.from c.in-Some.seg found.1.0 c.in-Some.ensures.least found.0),
      omega (arith, found.1.1),
    )

pub returns-clause-memory : goal.returns-clause-memory
returns-clause-memory g c = rw (← c.self.view_is)
    (c.loop-seg.invariant.0 ∙ sym (none_between (set_of c.self.inside.bits) c.loop-seg.from c.self.inside.bits.segs c.loop-seg.invariant.1 c.in_default.ensures.none))

pub returns-clause-known : goal.returns-clause-known
returns-clause-known g c = rw (← c.self.view_is) (λ known.
    c.loop-seg.invariant.0
    ∙ sym (none_between (set_of c.self.inside.bits) c.loop-seg.from c.self.inside.bits.segs c.loop-seg.invariant.1 c.in_default.ensures.none)
    ∙ listed_known (record { volume = g.D.Disk.seen c.self.inside.volume; bits = c.self.inside.bits }) c.self.invariant known)
