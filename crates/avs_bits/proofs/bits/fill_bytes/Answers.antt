use Rattle.std.proofs.Common.{rules, ◌≡◌, inr, List, ℕ, subst, ap, length, ◌∙◌, arith}
use Rattle.std.specs.Vec.{with_items}
use Rattle.std.proofs.lemmas.List.{with_items_is, length-replicate}
use Rattle.avs_seg.specs.Image.{blocks_of, block_at}
use Rattle.avs_seg.specs.Segment.{seg_count}
use Rattle.avs_code.specs.declared.labels.Label.{Label}
use Rattle.avs_code.specs.Label.{LabelKeeps, label_block}
use Rattle.avs_bits.specs.Bit.{bit_of}
use Rattle.avs_bits.specs.BitSet.{place}
use Rattle.avs_bits.proofs.SomeBits.{bit_of-zeros}
use Rattle.avs_bits.proofs.bits.fill_bytes.Goals as goal

pub returns : goal.returns
returns c =
    let items : (with_items c.put_bits.new.bytes c.put_first.new.bytes).items ≡ c.put_first.new.bytes = with_items_is c.put_bits.new.bytes c.put_first.new.bytes (search rules) in
    let segs : c.seg_count-segs.result ≡ seg_count c.args.blocks = c.seg_count-segs.ensures in
    record {
      len = ap length items ∙ c.put_first.ensures.len ∙ ap length c.deref_mut.ensures.value ∙ c.put_bits.ensures.len ∙ ap length c.requires.zeros ∙ length-replicate _ _;
      label = record {
        keeps = subst (λ (x : Label). LabelKeeps x) c.bitmap_label.ensures.is c.bitmap_label.ensures.keeps;
        fits = record { blocks = omega arith; segments = omega arith };
        spelled =
            ap (λ (l : List ℕ). block_at (blocks_of l) 0) items
            ∙ c.put_first.ensures.label
            ∙ ap (λ (x : Label). label_block x) c.bitmap_label.ensures.is;
      };
      set = λ s below.
          ap (λ (l : List ℕ). bit_of l (place s)) items
          ∙ c.put_first.ensures.bits (place s) (omega arith)
          ∙ ap (λ (l : List ℕ). bit_of l (place s)) c.deref_mut.ensures.value
          ∙ c.put_bits.ensures.put.inside (place s) (omega arith) (omega (arith, segs, below));
      clean = record {
        each = λ p above.
            ap (λ (l : List ℕ). bit_of l p) items
            ∙ c.put_first.ensures.bits p (omega arith)
            ∙ ap (λ (l : List ℕ). bit_of l p) c.deref_mut.ensures.value
            ∙ c.put_bits.ensures.put.outside p (inr (omega (arith, segs, above)))
            ∙ ap (λ (l : List ℕ). bit_of l p) c.requires.zeros
            ∙ bit_of-zeros _ p;
      };
    }
