use Rattle.std.proofs.Common.{rules, ◌≡◌, ◌<◌, ◌*◌, inl, inr, List, ℕ, length, ap, sym, ◌∙◌, arith}
use Rattle.std.specs.Vec.{with_items}
use Rattle.std.proofs.lemmas.List.{with_items_is}
use Rattle.std.proofs.lemmas.Bool.{cases_lt}
use Rattle.avs_bits.specs.Bit.{bit_of}
use Rattle.avs_bits.specs.BitSet.{place, blocks_for}
use Rattle.avs_seg.specs.Segment.{seg_count}
use Rattle.avs_bits.proofs.SomeBits.{bit_of_past}
use Rattle.avs_bits.proofs.bits.read_bytes.Goals as goal

pub returns-clause-kept : goal.returns-clause-kept
returns-clause-kept g c =
    let segs : c.seg_count-segs.result ≡ seg_count c.args.blocks = c.seg_count-segs.ensures in
    let len : length c.put_bits.new.bytes.items ≡ 512 * blocks_for (seg_count c.args.blocks) = search rules in
    record {
      len = len;
      fits = search rules;
      small = omega arith;
      clean = record {
        each = λ p above. elim (cases_lt p (8 * length c.put_bits.new.bytes.items)) [
          | inl below ↦ c.put_bits.ensures.put.inside p (omega (arith, segs, above)) (omega (arith, segs, len, below))
          | inr past ↦ bit_of_past c.put_bits.new.bytes.items p past
        ];
      };
    }

pub returns-clause-held : goal.returns-clause-held
returns-clause-held g c told =
    let segs : c.seg_count-segs.result ≡ seg_count c.args.blocks = c.seg_count-segs.ensures in
    let items : (with_items c.in_ok-bytes.bytes c.read_first.new.bytes).items ≡ c.read_first.new.bytes = with_items_is c.in_ok-bytes.bytes c.read_first.new.bytes (search rules) in
    let len : length c.deref_mut.result.now ≡ 512 * blocks_for c.seg_count-segs.result = ap length c.deref_mut.ensures.value ∙ c.in_ok-bytes.ensures.len in
    let held = c.in_ok-read_first.ensures.held told (place c.seg_count-segs.result) (omega (arith, len)) in
    record {
      each = λ p behind below.
          let under : p < place c.seg_count-segs.result = omega (arith, segs, below) in
          held.each p behind under
          ∙ sym (ap (λ (l : List ℕ). bit_of l p) items)
          ∙ sym (c.put_bits.ensures.put.outside p (inl under));
    }
