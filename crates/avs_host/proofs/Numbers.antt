-- The disks at rest of a store by their numbers.
use Rattle.std.proofs.Common.{◌≡◌, ℕ, ◌≤◌, Bool, false, IsTrue, Option, None, Some, IfSome, List, length, take, slice_get, slice_set, refl, sym, ap, subst, ◌∙◌, true≢false, arith}
use Rattle.std.specs.Option.{option_map, option_map_or}
use Rattle.std.specs.Cmp.Lexicographic.{bytes_decides}
use Rattle.std.proofs.lemmas.Option.{slice_get_past}
use Rattle.avs_dev.specs.Seen.{Seen, with_tear}
use Rattle.avs_dev.specs.declared.disk.Tear.{Tear}
use Rattle.avs_stack.specs.Names.{Named, AreApart}
use Rattle.avs_host.specs.Resting.{disks_in, ArmsOne}
use Rattle.avs_host.specs.Store.{StoreSeen, volumes_with, resting_in, numbered, written_of, with_disk, ArmsResting}
use Rattle.avs_host.proofs.Volumes.{store_of, only_at, at_number, as_many, disk_set, same_seen}

module _ {D : Type 0} (seen : D → Seen) (names : List Named) (disks : List (Option D)) (stamp : ℕ) (long : length disks ≡ length names) where
  -- there is none of a number that is not below how many are at rest
  pub none_numbered : (number : ℕ) → length (disks_in disks) ≤ number → numbered (store_of stamp (volumes_with seen names disks)) number ≡ None
  none_numbered number few =
      let many = as_many seen names disks in
      slice_get_past (resting_in (volumes_with seen names disks)) number (omega arith)

  -- the one of a number
  pub one_numbered : (number place : ℕ) (disk : D) → slice_get disks place ≡ Some (Some disk) → length (disks_in (take place disks)) ≡ number
      → (one : Named) × (slice_get names place ≡ Some one) × (numbered (store_of stamp (volumes_with seen names disks)) number ≡ Some (one.name, seen disk))
  one_numbered number place disk at before =
      let told = at_number seen names disks place disk long at in
      (told.0, told.1, ap (λ n. slice_get (resting_in (volumes_with seen names disks)) n) (sym before) ∙ told.2)

  pub written_at : (number place : ℕ) (disk : D) → slice_get disks place ≡ Some (Some disk) → length (disks_in (take place disks)) ≡ number
      → Some (seen disk).written ≡ written_of (store_of stamp (volumes_with seen names disks)) number
  written_at number place disk at before =
      let told = one_numbered number place disk at before in
      sym (ap (option_map (λ (one : List ℕ × Seen). one.1.written)) told.2)

  pub arms_none : (number : ℕ) (tear : Tear) → length (disks_in disks) ≤ number
      → ArmsResting (store_of stamp (volumes_with seen names disks)) number tear false (store_of stamp (volumes_with seen names disks))
  arms_none number tear few =
      let none = none_numbered number few in
      record {
        answer = sym (ap (λ (o : Option (List ℕ × Seen)). option_map_or (λ one. one.1.arms) o false) none);
        armed = λ is_armed. absurd (true≢false (sym is_armed));
        unarmed = λ _. refl;
        sure = subst (λ (o : Option (List ℕ × Seen)). IfSome o (λ one. IsTrue one.1.steady → IsTrue false)) (sym none) tt;
      }

  pub arms_at : (number place : ℕ) (disk : D) (new : Option D) (tear : Tear) (result : Bool) → AreApart names
      → slice_get disks place ≡ Some (Some disk) → length (disks_in (take place disks)) ≡ number
      → ArmsOne seen (Some disk) tear result new → (IsTrue (seen disk).steady → IsTrue (seen disk).arms)
      → ArmsResting (store_of stamp (volumes_with seen names disks)) number tear result (store_of stamp (volumes_with seen names (slice_set disks place new)))
  arms_at number place disk new tear result apart at before arms sure =
      let old : StoreSeen = store_of stamp (volumes_with seen names disks) in
      let told = one_numbered number place disk at before in
      let name = told.0.name in
      let only = only_at name names place told.0 apart told.1 ((bytes_decides name name).1 refl) in
      let held = ap (λ (d : Option D). store_of stamp (volumes_with seen names (slice_set disks place d))) arms.1 in
      record {
        answer = arms.2.answer ∙ sym (ap (λ (o : Option (List ℕ × Seen)). option_map_or (λ one. one.1.arms) o false) told.2);
        armed = λ is_armed.
            subst (λ (o : Option (List ℕ × Seen)). IfSome o (λ one. store_of stamp (volumes_with seen names (slice_set disks place new)) ≡ with_disk old one.0 (Some (with_tear tear one.1))))
            (sym told.2)
            (held ∙ ap (store_of stamp) (disk_set seen name names disks place (Some arms.0) only) ∙ ap (λ s. with_disk old name (Some s)) (arms.2.armed is_armed));
        unarmed = λ is_not. held ∙ ap (store_of stamp) (same_seen seen names disks place disk arms.0 at (arms.2.unarmed is_not));
        sure = subst (λ (o : Option (List ℕ × Seen)). IfSome o (λ one. IsTrue one.1.steady → IsTrue result)) (sym told.2)
            (λ steady. subst (λ b. IsTrue b) (sym arms.2.answer) (sure steady));
      }
