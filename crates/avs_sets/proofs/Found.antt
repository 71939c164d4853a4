-- Memory is no part of what a group stands for: neither the chunks in memory nor the area that it takes for the live one.
use Rattle.std.proofs.Common.{◌≡◌, ℕ, zero, suc, Bool, true, false, cond, eqb, ◌&&◌, ◌||◌, Option, None, List, [], ◌∷◌, length, map, filter, get_or, ◌∙◌, sym, refl, ap, subst, arith}
use Rattle.std.specs.Option.{option_map}
use Rattle.avs_seg.specs.Image.{Image, Block, block_at, tabulate}
use Rattle.avs_dev.specs.Seen.{Seen, shown}
use Rattle.avs_model.specs.GroupStates.{is_over}
use Rattle.avs_model.specs.Room.{over_slots}
use Rattle.avs_sets.specs.Says.{BlockSays}
use Rattle.avs_sets.specs.Sets.{SetSeen, no_map}
use Rattle.avs_sets.specs.Meaning.{set_of, set_in, is_enabled, read, is_back, pick, volume_by, set_by, is_used, group_by}
use Rattle.avs_sets.specs.Whole.{IsApart, AreSlotsApart, IsWholeSet, AreWhole}
use Rattle.avs_sets.specs.Goes.{IsSameSet}
use Rattle.avs_sets.proofs.Lift.{same_row}

-- a set as its disks alone tell it
abbrev pub forgotten : SetSeen → SetSeen
forgotten s = record s { memory = no_map; next = no_map; live_b = false }

pick_found : (says : BlockSays) (O : List (Option Seen)) (S : List SetSeen) (v i : ℕ) (d : Block) → pick says O (map forgotten S) v i d ≡ pick says O S v i d
pick_found says O [] v i d = refl
pick_found says O (s ∷ S) v i d = ap (λ (x : Block). cond (is_back says v i s) ((read says O s).stands i) x) (pick_found says O S v i d)

used_found : (says : BlockSays) (S : List SetSeen) (o : ℕ) → is_used says (map forgotten S) o ≡ is_used says S o
used_found says [] o = refl
used_found says (s ∷ S) o = ap (λ (b : Bool). (is_enabled says s && is_over s.over o) || b) (used_found says S o)

sets_found : (says : BlockSays) (V O : List (Option Seen)) (S : List SetSeen) → map (λ t. set_by says V O t) (filter (λ t. is_enabled says t) (map forgotten S)) ≡ map (λ t. set_by says V O t) (filter (λ t. is_enabled says t) S)
sets_found says V O [] = refl
sets_found says V O (s ∷ S) = go (sets_found says V O S) (is_enabled says s)
  where
    go : map (λ t. set_by says V O t) (filter (λ t. is_enabled says t) (map forgotten S)) ≡ map (λ t. set_by says V O t) (filter (λ t. is_enabled says t) S) → (b : Bool)
        → map (λ t. set_by says V O t) (cond b (forgotten s ∷ filter (λ t. is_enabled says t) (map forgotten S)) (filter (λ t. is_enabled says t) (map forgotten S))) ≡ map (λ t. set_by says V O t) (cond b (s ∷ filter (λ t. is_enabled says t) S) (filter (λ t. is_enabled says t) S))
    go rest true = λ p. set_by says V O s ∷ rest p
    go rest false = rest

pub group_found : (says : BlockSays) (V O : List (Option Seen)) (S : List SetSeen) → group_by says V O (map forgotten S) ≡ group_by says V O S
group_found says V O S = λ p. record {
  volumes = same_row None (length V) _ _ (λ v l. volume v) p;
  overs = same_row None (length O) _ _ (λ o l. ap (λ (b : Bool). cond b (option_map (λ disk. over_slots disk.size) (get_or O o None)) None) (used_found says S o)) p;
  sets = sets_found says V O S p;
  note = says.note;
  sequence = says.sequence;
}
  where
    volume : (v : ℕ) → volume_by says V O (map forgotten S) v ≡ volume_by says V O S v
    volume v = ap (λ (f : Image → Image). option_map (λ disk. f (shown disk)) (get_or V v None)) (λ p img. tabulate (length img) (λ i. pick_found says O S v i (block_at img i) p))

-- two groups whose disks say the same stand for the same, whatever is in their memory
pub same_found : (says : BlockSays) (V O : List (Option Seen)) (S T : List SetSeen) → map forgotten S ≡ map forgotten T → group_by says V O S ≡ group_by says V O T
same_found says V O S T same = sym (group_found says V O S) ∙ ap (λ (x : List SetSeen). group_by says V O x) same ∙ group_found says V O T

-- ---- the set at a place, and that of a slot

pub forget_at : (S : List SetSeen) (k : ℕ) → set_of (map forgotten S) k ≡ forgotten (set_of S k)
forget_at [] k = refl
forget_at (s ∷ S) zero = refl
forget_at (s ∷ S) (suc k) = forget_at S k

pub forget_in : (S : List SetSeen) (slot : ℕ) → set_in (map forgotten S) slot ≡ forgotten (set_in S slot)
forget_in [] slot = refl
forget_in (s ∷ S) slot = go (forget_in S slot) (eqb s.slot slot)
  where
    go : set_in (map forgotten S) slot ≡ forgotten (set_in S slot) → (b : Bool) → cond b (forgotten s) (set_in (map forgotten S) slot) ≡ forgotten (cond b s (set_in S slot))
    go rest true = refl
    go rest false = rest

pub forget_length : (S : List SetSeen) → length (map forgotten S) ≡ length S
forget_length [] = refl
forget_length (s ∷ S) = ap suc (forget_length S)

-- sets of which only the memory is another
module _ (S T : List SetSeen) (same : map forgotten T ≡ map forgotten S) where
  pub long : length T ≡ length S
  long = sym (forget_length T) ∙ ap (λ (l : List SetSeen). length l) same ∙ forget_length S

  pub each_same : (k : ℕ) → forgotten (set_of T k) ≡ forgotten (set_of S k)
  each_same k = sym (forget_at T k) ∙ ap (λ (l : List SetSeen). set_of l k) same ∙ forget_at S k

  pub slot_same : (slot : ℕ) → forgotten (set_in T slot) ≡ forgotten (set_in S slot)
  slot_same slot = sym (forget_in T slot) ∙ ap (λ (l : List SetSeen). set_in l slot) same ∙ forget_in S slot

  pub set_same : (k : ℕ) → IsSameSet (set_of S k) (set_of T k)
  set_same k = record {
    slot = ap (λ (s : SetSeen). s.slot) (each_same k);
    kind = ap (λ (s : SetSeen). s.kind) (each_same k);
    master = ap (λ (s : SetSeen). s.master) (each_same k);
    size = ap (λ (s : SetSeen). s.size) (each_same k);
    over = ap (λ (s : SetSeen). s.over) (each_same k);
  }

  -- they are whole as the others are
  pub whole_found : (says : BlockSays) (V O : List (Option Seen)) → AreWhole says V O S → AreWhole says V O T
  whole_found says V O w = record {
    volumes_told = w.volumes_told;
    overs_told = w.overs_told;
    each = λ k lt. recall k (subst (λ (s : SetSeen). IsWholeSet says V O s) (sym (each_same k)) (forget (w.each k (omega (arith, lt, long)))));
    apart = λ j k lj lk ne. apart j k (w.apart j k (omega (arith, lj, long)) (omega (arith, lk, long)) ne);
    slots_apart = λ j k lj lk ne. slots j k (w.slots_apart j k (omega (arith, lj, long)) (omega (arith, lk, long)) ne);
  }
    where
      forget : {s : SetSeen} → IsWholeSet says V O s → IsWholeSet says V O (forgotten s)
      forget {s} x = record { shadow = x.shadow; bitmap = x.bitmap; kind = x.kind; off = x.off; placed = λ l. record { each = (x.placed l).each }; alike = x.alike }

      recall : (k : ℕ) → IsWholeSet says V O (forgotten (set_of T k)) → IsWholeSet says V O (set_of T k)
      recall k x = record { shadow = x.shadow; bitmap = x.bitmap; kind = x.kind; off = x.off; placed = λ l. record { each = (x.placed l).each }; alike = x.alike }

      apart : (j k : ℕ) → IsApart says (set_of S j) (set_of S k) → IsApart says (set_of T j) (set_of T k)
      apart j k x =
          let y : IsApart says (forgotten (set_of S j)) (forgotten (set_of S k)) = record { splits = x.splits; alone = x.alone } in
          let z = subst (λ (s : SetSeen). IsApart says s (forgotten (set_of T k))) (sym (each_same j)) (subst (λ (s : SetSeen). IsApart says (forgotten (set_of S j)) s) (sym (each_same k)) y) in
          record { splits = z.splits; alone = z.alone }

      slots : (j k : ℕ) → AreSlotsApart says (set_of S j) (set_of S k) → AreSlotsApart says (set_of T j) (set_of T k)
      slots j k x =
          let y : AreSlotsApart says (forgotten (set_of S j)) (forgotten (set_of S k)) = record { each = x.each } in
          let z = subst (λ (s : SetSeen). AreSlotsApart says s (forgotten (set_of T k))) (sym (each_same j)) (subst (λ (s : SetSeen). AreSlotsApart says (forgotten (set_of S j)) s) (sym (each_same k)) y) in
          record { each = z.each }
