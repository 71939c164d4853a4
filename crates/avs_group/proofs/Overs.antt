-- Overflow volumes by their numbers.
use Rattle.std.proofs.Common.{◌≡◌, inl, inr, ℕ, Option, None, Some, List, length, get_or, ◌∙◌, sym, refl, ap, arith}
use Rattle.std.specs.Option.{option_map}
use Rattle.std.proofs.lemmas.Bool.{cases_lt}
use Rattle.std.proofs.lemmas.List.{get_or-map, length-map, get_or_past}
use Rattle.avs_dev.specs.Seen.{Seen}
use Rattle.avs_over.specs.Over.{OverSet}
use Rattle.avs_compact.specs.CompactSet.{over_of}
use Rattle.avs_sets.specs.Sets.{disk_of}
use Rattle.avs_sets.specs.Meaning.{over_disk}
use Rattle.avs_group.specs.Group.{over_disks, over_at}

of_over : (one : Option OverSet) → (over_of one).disk ≡ disk_of (option_map (λ (o : OverSet). o.disk) one)
of_over None = refl
of_over (Some o) = refl

pub over_disk_is : (overs : List (Option OverSet)) (over : Option ℕ) → (over_at overs over).disk ≡ over_disk (over_disks overs) over
over_disk_is overs None = refl
over_disk_is overs (Some n) = elim (cases_lt n (length overs)) [
  | inl lt ↦ of_over (get_or overs n None) ∙ sym (ap (λ (o : Option Seen). disk_of o) (get_or-map (λ one. option_map (λ (o : OverSet). o.disk) one) overs n None None lt))
  | inr le ↦ ap (λ (one : Option OverSet). (over_of one).disk) (get_or_past overs n None le)
      ∙ sym (ap (λ (o : Option Seen). disk_of o) (get_or_past (over_disks overs) n None (omega (arith, le, length-map overs (λ one. option_map (λ (o : OverSet). o.disk) one)))))
]
