use Rattle.std.proofs.Common.{◌≡◌, drop, length, sym, ◌∙◌}
use Rattle.std.proofs.lemmas.List.{length-take-le}
use Rattle.avs_bits.proofs.SomeBits.{first_block, bit_of-behind}
use Rattle.avs_bits.proofs.label_bytes.put_first.Goals as goal

pub copy_from_slice-requires : goal.copy_from_slice-requires
copy_from_slice-requires c =
    let long : length c.put_label.new.out ≡ 512 = c.put_label.array_long in
    length-take-le 512 c.args.bytes.now c.requires.room ∙ sym long

pub returns-clause-label : goal.returns-clause-label
returns-clause-label c =
    let long : length c.put_label.new.out ≡ 512 = c.put_label.array_long in
    rw c.copy_from_slice.ensures.after (first_block c.put_label.new.out (drop 512 c.args.bytes.now) long ∙ c.put_label.ensures.spelled)

pub returns-clause-bits : goal.returns-clause-bits
returns-clause-bits c p behind =
    let long : length c.put_label.new.out ≡ 512 = c.put_label.array_long in
    rw c.copy_from_slice.ensures.after (bit_of-behind c.put_label.new.out c.args.bytes.now p long behind)
