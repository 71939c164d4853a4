use Rattle.std.proofs.Common.{◌≡◌, ℕ, max, ◌∙◌, ap}
use Rattle.avs_entries.specs.Entries.{entry_in}
use Rattle.avs_entries.specs.Tallied.{reach_of}
use Rattle.avs_entries.proofs.Tallied.{reach_more}
use Rattle.avs_entries.proofs.tally.reach_in.Goals as goal

pub loop-chunk-preserved : goal.loop-chunk-preserved
loop-chunk-preserved c =
    let reach : c.reach_of.result ≡ reach_of c.args.own (entry_in c.args.bytes.now c.loop-chunk.chunk) = c.reach_of.ensures ∙ ap (λ (e : ℕ). reach_of c.args.own e) c.entry_in.ensures in
    record { reaches = reach_more (entry_in c.args.bytes.now) c.args.own c.loop-chunk.chunk c.loop-chunk.reach c.max-reach.result c.loop-chunk.invariant.reaches (c.max-reach.ensures ∙ ap (λ (k : ℕ). max k c.loop-chunk.reach) reach) }
