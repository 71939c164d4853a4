-- A set that was given away comes back: the chunks that were written meanwhile are split, by one commit.
use Rattle.std.proofs.Common.{◌≡◌, ◌≢◌, inl, inr, ℕ, ◌/◌, ◌<◌, Bool, true, false, cond, eqb, ◌||◌, ◌&&◌, nat_lt, Option, None, Some, List, [], ◌∷◌, length, map, Result, OnOk, ◌∙◌, sym, refl, ap, subst, arith}
use Rattle.std.proofs.Math.Path.{fun_ext}
use Rattle.std.proofs.lemmas.Bool.{cases_lt, ne_eqb}
use Rattle.std.proofs.lemmas.Bool.Decides.{nat_tests}
use Rattle.avs_seg.specs.Image.{Image}
use Rattle.avs_dev.specs.Seen.{Seen}
use Rattle.avs_dev.proofs.Going.{shown_told}
use Rattle.avs_model.specs.ShadowSets.{ChunkList, no_chunks, together, Contents, is_offline, is_independent, joined_set, ShadowState}
use Rattle.avs_model.specs.GroupStages.{Joined, committed, Commit}
use Rattle.avs_sets.specs.Says.{SlotSays, BlockSays}
use Rattle.avs_sets.specs.Sets.{SetSeen, chunks_of}
use Rattle.avs_sets.specs.Meaning.{GroupSeen, set_of, disk_in, image_in, is_enabled, standing_of, chunks_by, read, chunks_with, chunks_touched, contents_by, shadow_over, behind_of, set_by, group_by}
use Rattle.avs_sets.specs.Whole.{AreWhole, IsWhole, IsStep, IsInStep, IsKept}
use Rattle.avs_sets.specs.Goes.{Goes, Commits}
use Rattle.avs_sets.specs.Commands.{IsNext, KeepsOthers, Joins}
use Rattle.avs_sets.proofs.Lift.{none_back}
use Rattle.avs_sets.proofs.Found.{forgotten}
use Rattle.avs_sets.proofs.Commits.{commit_turns}
use Rattle.avs_sets.proofs.Renewing.{within, not_compact, Fits, fits_of}
use Rattle.avs_sets.proofs.Singles.{only_change, single_makes, whole_one}

never : true ≡ false → ⊥
never e = cc

module _ (says block : BlockSays) (V O : List (Option Seen)) (S : List SetSeen) (k : ℕ) (lt : k < length S) (chunks : ChunkList) (j : Joins says block V O (set_of S k) chunks)
    (others : KeepsOthers says block S k) (distinct : (i : ℕ) → i < length S → (set_of S i).slot ≡ (set_of S k).slot → i ≡ k) (w : AreWhole says V O S)
    (fits : (i : ℕ) → i < length S → Fits V (set_of S i)) where
  abbrev was : ℕ → ℕ
  was = (chunks_by says (set_of S k)).state

  abbrev now : ℕ → ℕ
  now = (chunks_by block (set_of S k)).state

  abbrev n : ℕ
  n = chunks_of (set_of S k)

  -- the set with these contents
  abbrev pub contents : Contents
  contents = record { image = shadow_over (read block O (set_of S k)) (image_in V (set_of S k).master); behind = behind_of (set_of S k) }

  still : (m : ℕ) (b : Bool) (s : ℕ) → m ≢ 2 → s ≢ m → cond b 2 s ≢ m
  still m true s two other e = two (sym e)
  still m false s two other e = other e

  not_zero : (c : ℕ) → c < n → now c ≢ 0
  not_zero c l z = still 0 (chunks c) (was c) (λ e. omega (arith, e)) (j.settled c l).0 (sym (j.states.states c l) ∙ z)

  not_three : (c : ℕ) → c < n → now c ≢ 3
  not_three c l t = still 3 (chunks c) (was c) (λ e. omega (arith, e)) (j.settled c l).1 (sym (j.states.states c l) ∙ t)

  count : (q q' : ℕ → Bool) → ((c : ℕ) → c < n → q' (now c) ≡ q c) → ◌≡◌ {A = ChunkList} (λ c. nat_lt c n && q' (now c)) (λ c. nat_lt c n && q c)
  count q q' same = within n (λ c. q' (now c)) q same

  inside : (c : ℕ) → (nat_lt c n && chunks c) ≡ chunks c
  inside c = go (chunks c) refl
    where
      and_false : (a : Bool) → (a && false) ≡ false
      and_false true = refl
      and_false false = refl

      less : (c m : ℕ) → c < m → nat_lt c m ≡ true
      less c m l = grind (arith, nat_tests)

      go : (b : Bool) → chunks c ≡ b → (nat_lt c n && b) ≡ b
      go false is = and_false (nat_lt c n)
      go true is = elim (cases_lt c n) [
        | inl l ↦ ap (λ (a : Bool). a && true) (less c n l)
        | inr le ↦ absurd (never (sym is ∙ j.within c le))
      ]

  moved : chunks_with (set_of S k).size.blocks now 2 ≡ together chunks (chunks_with (set_of S k).size.blocks was 2)
  moved = count (λ c. chunks c || eqb (was c) 2) (λ m. eqb m 2) (λ c l. ap (λ (m : ℕ). eqb m 2) (j.states.states c l) ∙ test (chunks c) (was c))
      ∙ fun_ext (λ c. over_or (nat_lt c n) (chunks c) (eqb (was c) 2) ∙ ap (λ (b : Bool). b || (nat_lt c n && eqb (was c) 2)) (inside c))
    where
      test : (b : Bool) (s : ℕ) → eqb (cond b 2 s) 2 ≡ (b || eqb s 2)
      test true s = refl
      test false s = refl

      over_or : (a b c : Bool) → (a && (b || c)) ≡ ((a && b) || (a && c))
      over_or true b c = refl
      over_or false b c = refl

  set_is : set_by block V O (set_of S k) ≡ joined_set chunks contents (set_by says V O (set_of S k))
  set_is = λ p. record {
    slot = (set_of S k).slot;
    kind = (set_of S k).kind;
    master = (set_of S k).master;
    size = (set_of S k).size;
    over = (set_of S k).over;
    lists = record {
      touched = touched (is_independent (set_of S k).kind) j.independent p;
      moved = moved p;
      left = ap (λ (l : ChunkList). cond (is_independent (set_of S k).kind) l no_chunks) (count (λ c. eqb (was c) 0) (λ m. eqb m 0) (λ c l. ne_eqb _ 0 (not_zero c l) ∙ sym (ne_eqb _ 0 (j.settled c l).0))) p;
      back = count (λ c. eqb (was c) 3) (λ m. eqb m 3) (λ c l. ne_eqb _ 3 (not_three c l) ∙ sym (ne_eqb _ 3 (j.settled c l).1)) p;
      stopped = ap (λ (x : SlotSays). x.stopped) j.slot p;
    };
    standing = ap (λ (x : SlotSays). x.standing) j.slot p;
    contents = ap (λ (x : SlotSays). contents_by x.standing (shadow_over (read block O (set_of S k)) (image_in V (set_of S k).master)) (behind_of (set_of S k))) j.slot p;
  }
    where
      touched : (d : Bool) → d ≡ true → cond d no_chunks (chunks_touched (set_of S k).size.blocks now)
          ≡ cond d (cond d no_chunks (chunks_touched (set_of S k).size.blocks was)) (together chunks (cond d no_chunks (chunks_touched (set_of S k).size.blocks was)))
      touched true is = refl
      touched false is = absurd (never (sym is))

  long : (v : ℕ) → length (image_in V v) ≡ (disk_in V v).size
  long v = ap (λ (img : Image). length img) (shown_told (disk_in V v) (w.volumes_told v)) ∙ w.volumes_told v

  pub group_joined : (note : Option (List ℕ)) → IsNext says block note → group_by block V O S ≡ committed (group_by says V O S) (only_change (set_of S k).slot (Joined chunks contents)) note
  group_joined note next = single_makes says block V O S k lt others distinct (Joined chunks contents) refl note next (record {
    first = refl;
    live = j.live;
    stays = λ l. ap (λ (set : ShadowState). Some set) (sym set_is);
    goes = λ l. absurd (never (sym (ap (λ (x : SlotSays). x.enabled) j.slot ∙ j.live) ∙ l));
    gives = λ i li.
        let c : i / 64 < n = omega (arith, li, long (set_of S k).master, (fits k lt).blocks) in
        inr (none_back block (set_of S k) (set_of S k).master i (λ live is. not_three (i / 64) c), none_back says (set_of S k) (set_of S k).master i (λ live is. (j.settled (i / 64) c).1));
    none_new = refl;
  })

  same_blocks : (i : ℕ) → i < length S → (set_of S i).master ≡ (set_of S k).master → (set_of S i).size.blocks ≡ (set_of S k).size.blocks
  same_blocks i li same = sym (fits i li).blocks ∙ ap (λ (v : ℕ). (disk_in V v).size) same ∙ (fits k lt).blocks

  had_some : (c : ℕ) → now c ≢ 0 → was c ≢ 0
  had_some c ne = elim (cases_lt c n) [
    | inl l ↦ (j.settled c l).0
    | inr le ↦ absurd (ne (j.states.none c le))
  ]

  pub whole_joined : AreWhole block V O S
  whole_joined = whole_one says block V O S k lt w others (record {
    shadow = (w.each k lt).shadow;
    bitmap = (w.each k lt).bitmap;
    kind = λ live. ap (λ (x : SlotSays). x.kind) j.slot ∙ (w.each k lt).kind j.live;
    off = λ live off. absurd (never (sym off ∙ ap (λ (x : SlotSays). is_offline x.standing) j.slot));
    placed = λ live. record {
      each = λ c d ne some other same. ((w.each k lt).placed j.live).each c d ne (had_some c some) (had_some d other) (sym (j.places.each c some) ∙ same ∙ j.places.each d other);
    };
    alike = λ live on. j.alike;
  })
      (λ i li ne. record {
        splits = λ live live' on same c l three. absurd (not_three c l three);
        alone = λ live live' same c l three. absurd (not_three c l three);
      })
      (λ i li ne. record {
        splits = λ live live' on same c l three.
            let here : c < n = omega (arith, l, same_blocks i li same) in
            j.states.states c here ∙ split_still (chunks c) (was c) (old_split i li ne live same c l three);
        alone = λ live live' same c l three. not_three c (omega (arith, l, same_blocks i li same));
      })
      (λ i li ne. record {
        each = λ live live' same c d slot some at other there.
            let before = others.each i li ne in
            (w.slots_apart k i lt li (λ e. ne (sym e))).each j.live (ap (λ (x : SlotSays). x.enabled) (sym before) ∙ live') same c d slot (had_some c some) (sym (j.places.each c some) ∙ at)
            (λ z. other (ap (λ (x : SlotSays). ((set_of S i).area x.area_b).state d) before ∙ z)) (ap (λ (x : SlotSays). ((set_of S i).area x.area_b).place d) (sym before) ∙ there);
      })
    where
      split_still : (b : Bool) (s : ℕ) → s ≡ 2 → cond b 2 s ≡ 2
      split_still true s is = refl
      split_still false s is = is

      not_offline : is_offline (standing_of says (set_of S k)) ≡ false
      not_offline = go (is_offline (standing_of says (set_of S k))) refl
        where
          go : (b : Bool) → is_offline (standing_of says (set_of S k)) ≡ b → b ≡ false
          go true off = absurd (not_compact (set_of S k).kind j.independent ((w.each k lt).off j.live off))
          go false on = refl

      old_split : (i : ℕ) → i < length S → i ≢ k → is_enabled block (set_of S i) ≡ true → (set_of S i).master ≡ (set_of S k).master → (c : ℕ) → c < chunks_of (set_of S i)
          → (chunks_by block (set_of S i)).state c ≡ 3 → was c ≡ 2
      old_split i li ne live same c l three =
          let before = others.each i li ne in
          (w.apart i k li lt ne).splits (ap (λ (x : SlotSays). x.enabled) (sym before) ∙ live) j.live not_offline same c l (ap (λ (x : SlotSays). ((set_of S i).area x.area_b).state c) (sym before) ∙ three)

-- the block is written, and the memory of the set is turned
pub join_goes : (g : GroupSeen) (inv : IsKept g.volumes g.overs g.sets) (k : ℕ) (lt : k < length g.sets) (block : BlockSays) (chunks : ChunkList)
    (S : List SetSeen) (turned : map forgotten S ≡ map forgotten g.sets) {T E : Type 0} (r : Result T E) (mid : GroupSeen) → Commits g block r mid
    → IsNext g.memory block None → KeepsOthers g.memory block g.sets k
    → (IsWhole g → IsInStep g → Joins g.says block g.volumes g.overs (set_of g.sets k) chunks)
    → (IsWhole g → IsInStep g → OnOk r ((i : ℕ) → i < length S → IsStep block (set_of S i)))
    → Goes g (Commit (only_change (set_of g.sets k).slot (Joined chunks (record { image = shadow_over (read block g.overs (set_of g.sets k)) (image_in g.volumes (set_of g.sets k).master); behind = behind_of (set_of g.sets k) }))) None ∷ [])
    r (record g { state = mid.state; says = mid.says; memory = mid.memory; sets = S })
join_goes g inv k lt block chunks S turned r mid cm next others joins in_step = commit_turns g block _ S turned r mid cm
    (λ w i. group_joined g.says block g.volumes g.overs g.sets k lt chunks (joins w i) (others_disk i) distinct w.disks fits None (next_disk i))
    (λ w i. whole_joined g.says block g.volumes g.overs g.sets k lt chunks (joins w i) (others_disk i) distinct w.disks fits)
    in_step
  where
    next_disk : IsInStep g → IsNext g.says block None
    next_disk i = subst (λ (b : BlockSays). IsNext b block None) i.block next

    others_disk : IsInStep g → KeepsOthers g.says block g.sets k
    others_disk i = subst (λ (b : BlockSays). KeepsOthers b block g.sets k) i.block others

    distinct : (i : ℕ) → i < length g.sets → (set_of g.sets i).slot ≡ (set_of g.sets k).slot → i ≡ k
    distinct i li same = inv.distinct i k li lt same

    fits : (i : ℕ) → i < length g.sets → Fits g.volumes (set_of g.sets i)
    fits i li = fits_of g.volumes g.overs (set_of g.sets i) (inv.held i li)
