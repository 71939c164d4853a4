-- A set that is not enabled is no part of what a group stands for: sets are made, given up and taken out in memory alone.
use Rattle.std.proofs.Common.{◌≡◌, ◌≢◌, ℕ, ◌/◌, ◌<◌, Bool, true, false, cond, eqb, ◌&&◌, ◌||◌, Option, None, List, [], ◌∷◌, length, map, get_or, ◌∙◌, sym, refl, ap, subst}
use Rattle.std.specs.Option.{option_map}
use Rattle.avs_seg.specs.Image.{Image, Block, block_at, tabulate}
use Rattle.avs_dev.specs.Seen.{Seen, shown}
use Rattle.avs_model.specs.GroupStates.{is_over}
use Rattle.avs_model.specs.Room.{over_slots}
use Rattle.avs_sets.specs.Says.{BlockSays}
use Rattle.avs_sets.specs.Sets.{SetSeen}
use Rattle.avs_sets.specs.Meaning.{set_of, is_enabled, chunks_by, read, is_back, pick, volume_by, set_by, enabled, is_used, group_by}
use Rattle.avs_sets.specs.Whole.{IsApart, AreSlotsApart, IsWholeSet, AreWhole, IsStep}
use Rattle.avs_sets.proofs.Lift.{same_row}

module _ (says : BlockSays) where
  pick_enabled : (O : List (Option Seen)) (S : List SetSeen) (v i : ℕ) (d : Block) → pick says O (enabled says S) v i d ≡ pick says O S v i d
  pick_enabled O [] v i d = refl
  pick_enabled O (t ∷ S) v i d = go (pick_enabled O S v i d) (is_enabled says t) refl
    where
      go : pick says O (enabled says S) v i d ≡ pick says O S v i d → (b : Bool) → is_enabled says t ≡ b
          → pick says O (cond b (t ∷ enabled says S) (enabled says S)) v i d ≡ cond (is_back says v i t) ((read says O t).stands i) (pick says O S v i d)
      go rest true is = ap (λ (x : Block). cond (is_back says v i t) ((read says O t).stands i) x) rest
      go rest false is = rest ∙ sym (ap (λ (b : Bool). cond (b && (eqb t.master v && eqb ((chunks_by says t).state (i / 64)) 3)) ((read says O t).stands i) (pick says O S v i d)) is)

  used_enabled : (S : List SetSeen) (o : ℕ) → is_used says (enabled says S) o ≡ is_used says S o
  used_enabled [] o = refl
  used_enabled (t ∷ S) o = go (used_enabled S o) (is_enabled says t) refl
    where
      go : is_used says (enabled says S) o ≡ is_used says S o → (b : Bool) → is_enabled says t ≡ b → is_used says (cond b (t ∷ enabled says S) (enabled says S)) o ≡ ((is_enabled says t && is_over t.over o) || is_used says S o)
      go rest true is = ap (λ (b : Bool). (is_enabled says t && is_over t.over o) || b) rest
      go rest false is = rest ∙ sym (ap (λ (b : Bool). (b && is_over t.over o) || is_used says S o) is)

  twice : (S : List SetSeen) → enabled says (enabled says S) ≡ enabled says S
  twice [] = refl
  twice (t ∷ S) = go (twice S) (is_enabled says t) refl
    where
      go : enabled says (enabled says S) ≡ enabled says S → (b : Bool) → is_enabled says t ≡ b → enabled says (cond b (t ∷ enabled says S) (enabled says S)) ≡ cond b (t ∷ enabled says S) (enabled says S)
      go rest true is = ap (λ (b : Bool). cond b (t ∷ enabled says (enabled says S)) (enabled says (enabled says S))) is ∙ ap (λ (l : List SetSeen). t ∷ l) rest
      go rest false is = rest

  of_enabled : (V O : List (Option Seen)) (S : List SetSeen) → group_by says V O (enabled says S) ≡ group_by says V O S
  of_enabled V O S = λ p. record {
    volumes = same_row None (length V) _ _ (λ v l. volume v) p;
    overs = same_row None (length O) _ _ (λ o l. ap (λ (b : Bool). cond b (option_map (λ disk. over_slots disk.size) (get_or O o None)) None) (used_enabled S o)) p;
    sets = map (λ t. set_by says V O t) (twice S p);
    note = says.note;
    sequence = says.sequence;
  }
    where
      volume : (v : ℕ) → volume_by says V O (enabled says S) v ≡ volume_by says V O S v
      volume v = ap (λ (f : Image → Image). option_map (λ disk. f (shown disk)) (get_or V v None)) (λ p img. tabulate (length img) (λ i. pick_enabled O S v i (block_at img i) p))

  -- two lists with the same enabled sets, in their order, stand for the same
  pub same_enabled : (V O : List (Option Seen)) (S T : List SetSeen) → enabled says T ≡ enabled says S → group_by says V O T ≡ group_by says V O S
  same_enabled V O S T same = sym (of_enabled V O T) ∙ ap (λ (l : List SetSeen). group_by says V O l) same ∙ of_enabled V O S

-- each set of the second list is one of the first, and two are two
pub record AreSome (S T : List SetSeen) : Type 0 where
  pub at : ℕ → ℕ
  pub there : (k : ℕ) → k < length T → at k < length S
  pub is : (k : ℕ) → k < length T → set_of T k ≡ set_of S (at k)
  pub apart : (j k : ℕ) → j < length T → k < length T → j ≢ k → at j ≢ at k

pub whole_some : (says : BlockSays) (V O : List (Option Seen)) (S T : List SetSeen) → AreSome S T → AreWhole says V O S → AreWhole says V O T
whole_some says V O S T some w = record {
  volumes_told = w.volumes_told;
  overs_told = w.overs_told;
  each = λ k lt. subst (λ (t : SetSeen). IsWholeSet says V O t) (sym (some.is k lt)) (w.each (some.at k) (some.there k lt));
  apart = λ j k lj lk ne. subst (λ (s : SetSeen). IsApart says s (set_of T k)) (sym (some.is j lj)) (subst (λ (t : SetSeen). IsApart says (set_of S (some.at j)) t) (sym (some.is k lk))
      (w.apart (some.at j) (some.at k) (some.there j lj) (some.there k lk) (some.apart j k lj lk ne)));
  slots_apart = λ j k lj lk ne. subst (λ (s : SetSeen). AreSlotsApart says s (set_of T k)) (sym (some.is j lj)) (subst (λ (t : SetSeen). AreSlotsApart says (set_of S (some.at j)) t) (sym (some.is k lk))
      (w.slots_apart (some.at j) (some.at k) (some.there j lj) (some.there k lk) (some.apart j k lj lk ne)));
}

pub steps_some : (says : BlockSays) (S T : List SetSeen) → AreSome S T → ((k : ℕ) → k < length S → IsStep says (set_of S k)) → (k : ℕ) → k < length T → IsStep says (set_of T k)
steps_some says S T some steps k lt = subst (λ (t : SetSeen). IsStep says t) (sym (some.is k lt)) (steps (some.at k) (some.there k lt))
