-- A slot that is taken, and the slots of a set that are released.
use Rattle.std.proofs.Common.{◌≡◌, ◌≢◌, inl, inr, ℕ, ◌+◌, ◌<◌, ◌≤◌, length, map, set, Option, None, Some, refl, sym, subst, ap, ◌∙◌, arith}
use Rattle.std.proofs.lemmas.Bool.{cases_lt}
use Rattle.avs_dev.specs.Seen.{Seen}
use Rattle.avs_over.specs.Slots.{Owners, owner_at, used_in, without, given_to, FindsFree}
use Rattle.avs_over.specs.Over.{OverSet, Takes, Releases}
use Rattle.avs_over.proofs.Giving.{used_more, used_all, used_some}

module _ (o : OverSet) (low set_number : ℕ) (taken : (k : ℕ) → k < low → k < length o.owners → owner_at o.owners k ≢ None) where
  pub takes_one : (slot : ℕ) → FindsFree o.owners low (Some slot) → Takes o set_number (Some slot) (record o { owners = set o.owners slot (Some set_number) })
  takes_one slot finds = record {
    least = record {
      inside = (omega arith, finds.inside.1);
      free = finds.free;
      least = λ k from below. elim (cases_lt k low) [ inl under ↦ taken k under (omega (arith, below, finds.inside.1)) | inr above ↦ finds.least k above below ];
      none = tt;
    };
    given = refl;
    more = used_more o.owners slot set_number finds.inside.1 finds.free;
    none = tt;
    exact = λ full. absurd (omega (arith, full, used_some o.owners slot finds.inside.1 finds.free));
  }

  pub takes_none : FindsFree o.owners low None → Takes o set_number None o
  takes_none finds =
      let full : (k : ℕ) → k < length o.owners → owner_at o.owners k ≢ None = λ k below. elim (cases_lt k low) [ inl under ↦ taken k under below | inr above ↦ finds.none k above below ] in
      record {
        least = record { inside = tt; free = tt; least = tt; none = λ k from below. full k below };
        given = tt;
        more = tt;
        none = (used_all o.owners full, refl);
        exact = λ all. tt;
      }

-- the slots of a set are released
pub releases : (o : OverSet) (set_number : ℕ) (owners : Owners) (count : ℕ) → owners ≡ map (without set_number) o.owners → count ≡ given_to set_number o.owners → used_in owners + count ≡ used_in o.owners → Releases o set_number (record o { owners = owners })
releases o set_number owners count freed given fewer = record {
  is = ap (λ (l : Owners). record o { owners = l }) freed;
  fewer = subst (λ (n : ℕ). used_in owners + n ≡ used_in o.owners) given fewer;
}
