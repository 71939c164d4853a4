-- Whether the slots of an overflow volume that stand in the entries of a set are there.
use Rattle.std.proofs.Common.{◌<◌, ◌≤◌, arith}
use Rattle.avs_over.specs.Over.{OverSet, slots}
use Rattle.avs_entries.specs.Tallied.{AreTallied}
use Rattle.avs_entries.specs.declared.tally.Tally.{Tally}
use Rattle.avs_entries.proofs.Tallied.{reach_some, reach_over}
use Rattle.avs_compact.specs.CompactSet.{CompactSet, entry_of, chunks_of}
use Rattle.avs_compact.specs.Calls.{AreThere, LacksSlot}

pub are_there : (s : CompactSet) (o : OverSet) (t : Tally) → AreTallied (entry_of s) s.own (chunks_of s) t → t.reach ≤ slots o → AreThere s o
are_there s o t p fits = record {
  each = λ c lt some past.
      let w = p.reach.within c lt in
      let r = reach_some s.own (entry_of s c) some past in
      omega (arith, w, r, fits);
}

pub lacks_slot : (s : CompactSet) (o : OverSet) (t : Tally) → AreTallied (entry_of s) s.own (chunks_of s) t → slots o < t.reach → LacksSlot s o
lacks_slot s o t p less =
    let m = p.reach.met (omega (arith, less)) in
    let has = reach_over s.own (entry_of s m.0) t.reach m.1.1 (omega (arith, less)) in
    let r = reach_some s.own (entry_of s m.0) has.0 has.1 in
    record { chunk = m.0; there = m.1.0; some = has.0; past = has.1; lacks = omega (arith, r, m.1.1, less) }
