-- The least chunk of a set that is to be copied.
use Rattle.std.proofs.Common.{◌≡◌, ◌≢◌, ◌⊎◌, inl, inr, ℕ, ◌+◌, ◌<◌, Bool, true, false, cond, eqb, nat_lt, ◌&&◌, ◌||◌, Option, None, Some, [], length, get_or, Result, Ok, Err, IsOk, ◌∙◌, sym, refl, ap, subst, arith}
use Rattle.std.specs.List.{range_with_len}
use Rattle.std.proofs.lemmas.Bool.{lt-ltb, eqb-true}
use Rattle.std.proofs.lemmas.List.FromFn.{get_or-range_with_len, length-range_with_len}
use Rattle.avs_seg.specs.Image.{block_at}
use Rattle.avs_seg.specs.Segment.{seg_count}
use Rattle.avs_dev.specs.Seen.{Seen, IsTold}
use Rattle.avs_dev.proofs.Going.{shown_told}
use Rattle.avs_model.specs.ShadowSets.{is_independent, no_chunks}
use Rattle.avs_model.specs.GroupStages.{copy_stages}
use Rattle.avs_chunks.specs.Due.{is_due}
use Rattle.avs_chunks.specs.Copying.{FindsDue}
use Rattle.avs_over.specs.Over.{OverSet}
use Rattle.avs_sets.specs.Sets.{SetSeen, chunks_of}
use Rattle.avs_sets.specs.Meaning.{GroupSeen, set_of, disk_in, over_disk, is_enabled, chunks_with}
use Rattle.avs_sets.specs.Owners.{EndsThere}
use Rattle.avs_sets.specs.Goes.{Goes}
use Rattle.avs_sets.specs.Steps.{OfBitmap, KeepsRest, Settles}
use Rattle.avs_sets.proofs.Chains.{goes_nothing, labels_none}
use Rattle.avs_held.specs.Rooms.{Mine, OnDisks, on_disks}
use Rattle.avs_held.specs.Calls.{CopiesDue, CopiesOne, SettlesSet}
use Rattle.avs_held.proofs.Grouped.{set_copies}
use Rattle.avs_group.specs.Group.{Group, IsKeptGroup, over_disks, over_at, group_of}
use Rattle.avs_group.specs.Named.{next_chunk}
use Rattle.avs_group.specs.Calls.{Does, CopiesAt}
use Rattle.avs_group.proofs.ByName.{find_first, find_nothing}
use Rattle.avs_group.proofs.OneSet.{with_one, none_same, only_v, now_m, only_o, was_o, owns, one_labels, one_kept}

-- ---- the least chunk

or_turned : (a b : Bool) → (a || b) ≡ (b || a)
or_turned true true = refl
or_turned true false = refl
or_turned false true = refl
or_turned false false = refl

list_is : (b : Bool) (blocks : ℕ) (state : ℕ → ℕ) (c : ℕ) → nat_lt c (seg_count blocks) ≡ true
    → ((cond b (chunks_with blocks state 0) no_chunks) c || chunks_with blocks state 3 c) ≡ (eqb (state c) 3 || (b && eqb (state c) 0))
list_is true blocks state c low = ap (λ (x : Bool). (x && eqb (state c) 0) || (x && eqb (state c) 3)) low ∙ or_turned (eqb (state c) 0) (eqb (state c) 3)
list_is false blocks state c low = ap (λ (x : Bool). x && eqb (state c) 3) low ∙ or_turned false (eqb (state c) 3)

module _ (s : SetSeen) where
  abbrev is_listed : ℕ → Bool
  is_listed c = (cond (is_independent s.kind) (chunks_with s.size.blocks s.memory.state 0) no_chunks) c || chunks_with s.size.blocks s.memory.state 3 c

  listed : (c : ℕ) → c < chunks_of s → is_listed c ≡ is_due (is_independent s.kind) (s.memory.state c)
  listed c lt = list_is (is_independent s.kind) s.size.blocks s.memory.state c (lt-ltb c (chunks_of s) lt)

  at : (c : ℕ) → c < chunks_of s → get_or (range_with_len 0 (chunks_of s)) c 0 ≡ c
  at c lt = get_or-range_with_len 0 (chunks_of s) c 0 lt ∙ plain c
    where
      plain : (n : ℕ) → 0 + n ≡ n
      plain n = omega arith

  listed_at : (c : ℕ) → c < chunks_of s → is_listed (get_or (range_with_len 0 (chunks_of s)) c 0) ≡ is_due (is_independent s.kind) (s.memory.state c)
  listed_at c lt = ap is_listed (at c lt) ∙ listed c lt

  pub due_is : (due : Option ℕ) → FindsDue s.memory.state (is_independent s.kind) (chunks_of s) due → due ≡ next_chunk s
  due_is None finds = sym (find_nothing 0 is_listed (range_with_len 0 (chunks_of s)) (λ j lt.
      let low : j < chunks_of s = omega (arith, lt, length-range_with_len 0 (chunks_of s)) in
      listed_at j low ∙ finds.none j low))
  due_is (Some c) finds = sym (
      find_first 0 is_listed (range_with_len 0 (chunks_of s)) c (omega (arith, finds.there, length-range_with_len 0 (chunks_of s)))
      (λ j lt. let low : j < chunks_of s = omega (arith, lt, finds.there) in listed_at j low ∙ finds.least j lt)
      (listed_at c finds.there ∙ finds.due)
      ∙ ap (λ (x : ℕ). Some x) (at c finds.there))

-- a chunk that is to be copied
due_cases : (b : Bool) (state : ℕ) → is_due b state ≡ true → (state ≡ 3) ⊎ ((b ≡ true) × (state ≡ 0))
due_cases true state is = go (eqb state 3) refl
  where
    go : (x : Bool) → eqb state 3 ≡ x → (state ≡ 3) ⊎ ((true ≡ true) × (state ≡ 0))
    go true e = inl (eqb-true state 3 e)
    go false e = inr (refl, eqb-true state 0 (sym (ap (λ (x : Bool). x || eqb state 0) e) ∙ is))
due_cases false state is = go (eqb state 3) refl
  where
    go : (x : Bool) → eqb state 3 ≡ x → (state ≡ 3) ⊎ ((false ≡ true) × (state ≡ 0))
    go true e = inl (eqb-true state 3 e)
    go false e = absurd (never (sym (ap (λ (x : Bool). x || false) e) ∙ is))
      where
        never : false ≡ true → ⊥
        never e = cc

-- ---- the call

nothing_goes : {T E : Type 0} (g : GroupSeen) (r : Result T E) → IsOk r → Goes g [] r g
nothing_goes g (Ok x) ok = goes_nothing g x
nothing_goes g (Err e) ok = absurd (never ok)
  where
    never : false ≡ true → ⊥
    never e = cc

module _ (old : Group) (inv : IsKeptGroup old) (k : ℕ) (lt : k < length old.sets) (s' : SetSeen) (m' : Seen) (live : is_enabled (group_of old).memory (set_of old.sets k) ≡ true)
    {E : Type 0} (r : Result (Option ℕ) E) where
  abbrev s : SetSeen
  s = set_of old.sets k

  abbrev over : OverSet
  over = over_at old.overs (set_of old.sets k).over

  abbrev before : OnDisks
  before = on_disks (set_of old.sets k) (disk_in old.volumes (set_of old.sets k).master) (over_at old.overs (set_of old.sets k).over)

  abbrev behind : OnDisks
  behind = on_disks s' m' (over_at old.overs (set_of old.sets k).over)

  module _ (chunk : ℕ) (a : SettlesSet before chunk 1 r behind) where
    settles : Settles (group_of old).says (Mine s over) s (disk_in old.volumes s.master) (over_disk (over_disks old.overs) s.over) chunk 1 r s'
        (disk_in (with_one old k s' m').volumes s.master) (over_disk (over_disks old.overs) s.over)
    settles = subst (λ (x : Seen). Settles (group_of old).says (Mine s over) s (disk_in old.volumes s.master) x chunk 1 r s' (disk_in (with_one old k s' m').volumes s.master) x) (was_o old inv k lt s' m')
        (subst (λ (x : Seen). Settles (group_of old).says (Mine s over) s (disk_in old.volumes s.master) over.disk chunk 1 r s' x over.disk) (now_m old inv k lt s' m')
        (a.step (owns old inv k lt s' m' live) (group_of old).says))

    bitmap_label : IsTold s.bitmap → block_at s'.bitmap.image 0 ≡ block_at s.bitmap.image 0
    bitmap_label told =
        let told' = (settles.keeps.disks.lasts OfBitmap).told told in
        sym (ap (λ img. block_at img 0) (shown_told s'.bitmap told')) ∙ (a.keeps.bitmap told).label ∙ ap (λ img. block_at img 0) (shown_told s.bitmap told)

    module _ (due : is_due (is_independent s.kind) (s.memory.state chunk) ≡ true) (there : chunk < chunks_of s) where
      rest : KeepsRest s (over_disk (over_disks old.overs) s.over) s' (over_disk (over_disks old.overs) s.over)
      rest = record {
        there = a.keeps.there;
        settled = λ settled. elim (due_cases (is_independent s.kind) (s.memory.state chunk) due) [
          | inl three ↦ absurd ((settled.each chunk there).1 three)
          | inr (is, zero_is) ↦ absurd ((settled.each chunk there).0 zero_is)
        ];
        label = bitmap_label;
        over_label = λ told. refl;
      }

      three : is_independent s.kind ≡ false → s.memory.state chunk ≡ 3
      three not = elim (due_cases (is_independent s.kind) (s.memory.state chunk) due) [
        | inl is ↦ is
        | inr (is, zero_is) ↦ absurd (never (sym is ∙ not))
      ]
        where
          never : true ≡ false → ⊥
          never e = cc

      not_two : s.memory.state chunk ≢ 2
      not_two two = elim (due_cases (is_independent s.kind) (s.memory.state chunk) due) [
        | inl is ↦ apart_three (s.memory.state chunk) is two
        | inr (is, zero_is) ↦ apart_zero (s.memory.state chunk) zero_is two
      ]
        where
          apart_three : (n : ℕ) → n ≡ 3 → n ≡ 2 → ⊥
          apart_three n a b = omega (arith, a, b)

          apart_zero : (n : ℕ) → n ≡ 0 → n ≡ 2 → ⊥
          apart_zero n a b = omega (arith, a, b)

      chunk_goes : Does old (copy_stages s.slot (Some chunk)) r (with_one old k s' m')
      chunk_goes = record {
        goes = set_copies (group_of old) inv.kept k lt over (was_o old inv k lt s' m') behind (with_one old k s' m').volumes (over_disks old.overs) (only_v old inv k lt s' m') (only_o old inv k lt s' m')
            (now_m old inv k lt s' m') (was_o old inv k lt s' m') live (inv.slots.owned s.over) a.keeps.owned r chunk 1 there a refl three not_two;
        labels = one_labels old inv k lt s' m' (Mine s over) r settles.keeps rest;
        state = λ is. is;
      }

      chunk_kept : EndsThere s' → IsKeptGroup (with_one old k s' m')
      chunk_kept ends = one_kept old inv k lt s' m' (Mine s over) r settles.keeps rest ends (a.keeps.owned.owned (owns old inv k lt s' m' live)) (a.keeps.owned.served (owns old inv k lt s' m' live) (inv.slots.served k lt))

  module _ (a : CopiesOne before r behind) where
    pub copies : CopiesAt old k r (with_one old k s' m')
    copies = go a.due a.finds a.copies
      where
        go : (due : Option ℕ) → FindsDue s.memory.state (is_independent s.kind) (chunks_of s) due → CopiesDue before due r behind → CopiesAt old k r (with_one old k s' m')
        go None finds (nothing, answer) = record {
          chunk = None;
          least = due_is s None finds;
          does = subst (λ (n : Group). Does old [] r n) (sym (none_same old inv k lt s' m' nothing.same)) (record { goes = nothing_goes (group_of old) r nothing.ok; labels = labels_none (group_of old); state = λ is. is });
          answer = answer;
        }
        go (Some chunk) finds (settle, answer) = record {
          chunk = Some chunk;
          least = due_is s (Some chunk) finds;
          does = chunk_goes chunk settle finds.due finds.there;
          answer = answer;
        }

    pub copies_kept : EndsThere s' → IsKeptGroup (with_one old k s' m')
    copies_kept ends = go a.due a.finds a.copies
      where
        go : (due : Option ℕ) → FindsDue s.memory.state (is_independent s.kind) (chunks_of s) due → CopiesDue before due r behind → IsKeptGroup (with_one old k s' m')
        go None finds (nothing, answer) = subst (λ (n : Group). IsKeptGroup n) (sym (none_same old inv k lt s' m' nothing.same)) inv
        go (Some chunk) finds (settle, answer) = chunk_kept chunk settle finds.due finds.there ends
