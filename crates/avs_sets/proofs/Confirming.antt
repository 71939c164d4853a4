-- A pending set is enabled, by one commit.
use Rattle.std.proofs.Common.{◌≡◌, ◌≢◌, inl, inr, ℕ, ◌/◌, ◌<◌, Bool, true, false, not, cond, eqb, ◌&&◌, nat_lt, is_some, Option, None, List, [], ◌∷◌, length, get_or, Result, ◌∙◌, sym, refl, ap, subst, arith}
use Rattle.std.specs.Option.{option_map, unwrap_or}
use Rattle.std.proofs.Math.Path.{fun_ext}
use Rattle.std.proofs.lemmas.Bool.{cases_lt, cases_eq, eq-eqb}
use Rattle.std.proofs.lemmas.List.{get_or_past}
use Rattle.std.proofs.lemmas.List.FromFn.{get_or-map-range_with_len}
use Rattle.avs_seg.specs.Image.{Image, block_at}
use Rattle.avs_dev.specs.Seen.{Seen, shown}
use Rattle.avs_dev.proofs.Going.{shown_told}
use Rattle.avs_model.specs.ShadowSets.{ChunkList, no_chunks, all_chunks, enabled_set, is_offline, is_independent, ShadowState}
use Rattle.avs_model.specs.GroupStates.{volume_image}
use Rattle.avs_model.specs.GroupStages.{Change, Enabled, committed, Commit}
use Rattle.avs_sets.specs.Says.{SlotSays, BlockSays}
use Rattle.avs_sets.specs.Sets.{SetSeen, chunks_of}
use Rattle.avs_sets.specs.Meaning.{GroupSeen, set_of, disk_in, image_in, is_enabled, chunks_by, read, pick, picked, volume_by, chunks_with, chunks_touched, contents_by, shadow_over, behind_of, set_by, group_by}
use Rattle.avs_sets.specs.Whole.{AreSame, AreWhole, IsWhole, IsStep, IsInStep, IsKept}
use Rattle.avs_sets.specs.Goes.{Goes, Commits}
use Rattle.avs_sets.specs.Commands.{IsNext, KeepsOthers, Confirms}
use Rattle.avs_sets.proofs.Lift.{same_tabulate, pick_none, none_back}
use Rattle.avs_sets.proofs.Lifted.{some_is}
use Rattle.avs_sets.proofs.Changes.{makes_more}
use Rattle.avs_sets.proofs.Commits.{commit_goes}
use Rattle.avs_sets.proofs.Sources.{image_as_it_is}
use Rattle.avs_sets.proofs.Renewing.{within, none_of, Fits, fits_of}
use Rattle.avs_sets.proofs.Singles.{GivesSame, volume_like, only_change, whole_one, no_master, other_set, other_enabled, other_gives, step_like}

never : true ≡ false → ⊥
never e = cc

module _ (says block : BlockSays) (V O : List (Option Seen)) (S : List SetSeen) (k : ℕ) (lt : k < length S) (cf : Confirms says block S k) (others : KeepsOthers says block S k)
    (distinct : (i : ℕ) → i < length S → (set_of S i).slot ≡ (set_of S k).slot → i ≡ k) (w : AreWhole says V O S) (fits : (i : ℕ) → i < length S → Fits V (set_of S i)) where
  -- the change by which it is enabled
  abbrev pub enabling : Change
  enabling = Enabled (set_of S k).kind (set_of S k).master (set_of S k).size (behind_of (set_of S k))

  abbrev master : Image
  master = image_in V (set_of S k).master

  abbrev now : ℕ → ℕ
  now = (chunks_by block (set_of S k)).state

  zero_now : (c : ℕ) → now c ≡ 0
  zero_now c = ap (λ (x : SlotSays). ((set_of S k).area x.area_b).state c) cf.slot ∙ cf.fresh.each c

  live_now : is_enabled block (set_of S k) ≡ true
  live_now = ap (λ (x : SlotSays). x.enabled) cf.slot

  not_three : (c : ℕ) → now c ≢ 3
  not_three c t = omega (arith, zero_now c, t)

  long : (v : ℕ) → length (image_in V v) ≡ (disk_in V v).size
  long v = ap (λ (img : Image). length img) (shown_told (disk_in V v) (w.volumes_told v)) ∙ w.volumes_told v

  same_blocks : (i : ℕ) → i < length S → (set_of S i).master ≡ (set_of S k).master → (set_of S i).size.blocks ≡ (set_of S k).size.blocks
  same_blocks i li same = sym (fits i li).blocks ∙ ap (λ (v : ℕ). (disk_in V v).size) same ∙ (fits k lt).blocks

  plain : (i : ℕ) → i < length master → pick says O S (set_of S k).master i (block_at master i) ≡ block_at master i
  plain i l = pick_none says O S (set_of S k).master i (block_at master i) (λ j lj. none_back says (set_of S j) (set_of S k).master i (λ live is.
      cf.none j lj live is (i / 64) (omega (arith, l, long (set_of S k).master, (fits k lt).blocks, same_blocks j lj is))))

  there : (set_of S k).master < length V
  there = elim (cases_lt (set_of S k).master (length V)) [
    | inl l ↦ l
    | inr le ↦ absurd (no_disk (sym (ap (λ (o : Option Seen). is_some o) (get_or_past V (set_of S k).master None le)) ∙ (fits k lt).seat))
  ]
    where
      no_disk : false ≡ true → ⊥
      no_disk e = cc

  volume_is : volume_image (group_by says V O S) (set_of S k).master ≡ picked says O S (set_of S k).master master
  volume_is =
      ap (λ (o : Option Image). unwrap_or o []) (get_or-map-range_with_len (λ v. volume_by says V O S v) 0 (length V) (set_of S k).master (set_of S k).master None there (omega arith)
      ∙ ap (λ (o : Option Seen). option_map (λ disk. picked says O S (set_of S k).master (shown disk)) o) (some_is (get_or V (set_of S k).master None) (fits k lt).seat))

  long_own : (set_of S k).size.blocks ≡ length master
  long_own = sym (fits k lt).blocks ∙ sym (long (set_of S k).master)

  image_is : shadow_over (read block O (set_of S k)) master ≡ volume_image (group_by says V O S) (set_of S k).master
  image_is = same_tabulate _ _ _ _ long_own (λ i l.
      ap (λ (b : Bool). cond b (block_at master i) ((read block O (set_of S k)).stands i)) (eq-eqb _ 0 (zero_now (i / 64)))
      ∙ sym (plain i (omega (arith, l, long_own)))) ∙ sym volume_is

  count : (q : ℕ → Bool) (b : Bool) → q 0 ≡ b → ◌≡◌ {A = ChunkList} (λ c. nat_lt c (chunks_of (set_of S k)) && q (now c)) (λ c. nat_lt c (chunks_of (set_of S k)) && b)
  count q b is = within (chunks_of (set_of S k)) (λ c. q (now c)) (λ c. b) (λ c l. ap q (zero_now c) ∙ is)

  -- the set is the one that is enabled
  set_is : set_by block V O (set_of S k) ≡ enabled_set (set_of S k).slot (set_of S k).kind (set_of S k).master (set_of S k).size (volume_image (group_by says V O S) (set_of S k).master) (behind_of (set_of S k))
  set_is = λ p. record {
    slot = (set_of S k).slot;
    kind = (set_of S k).kind;
    master = (set_of S k).master;
    size = (set_of S k).size;
    over = cf.over p;
    lists = record {
      touched = touched (is_independent (set_of S k).kind) p;
      moved = (count (λ m. eqb m 2) false refl ∙ none_of (chunks_of (set_of S k))) p;
      left = left (is_independent (set_of S k).kind) p;
      back = (count (λ m. eqb m 3) false refl ∙ none_of (chunks_of (set_of S k))) p;
      stopped = ap (λ (x : SlotSays). x.stopped) cf.slot p;
    };
    standing = ap (λ (x : SlotSays). x.standing) cf.slot p;
    contents = (ap (λ (x : SlotSays). contents_by x.standing (shadow_over (read block O (set_of S k)) master) (behind_of (set_of S k))) cf.slot
        ∙ (λ q. record { image = image_is q; behind = behind_of (set_of S k) })) p;
  }
    where
      and_true : (a : Bool) → (a && true) ≡ a
      and_true true = refl
      and_true false = refl

      touched : (d : Bool) → cond d no_chunks (chunks_touched (set_of S k).size.blocks now) ≡ no_chunks
      touched true = refl
      touched false = count (λ m. not (eqb m 0)) false refl ∙ none_of (chunks_of (set_of S k))

      left : (d : Bool) → cond d (chunks_with (set_of S k).size.blocks now 0) no_chunks ≡ cond d (all_chunks (set_of S k).size.blocks) no_chunks
      left true = count (λ m. eqb m 0) true refl ∙ fun_ext (λ c. and_true (nat_lt c (chunks_of (set_of S k))))
      left false = refl

  gives : (v i : ℕ) → (j : ℕ) → j < length S → GivesSame says block v i (set_of S j)
  gives v i j lj = elim (cases_eq j k) [
    | inl is ↦ subst (λ (x : ℕ). GivesSame says block v i (set_of S x)) (sym is)
        (inr (none_back block (set_of S k) v i (λ live same. not_three (i / 64)), none_back says (set_of S k) v i (λ live same three. never (sym live ∙ cf.pending))))
    | inr ne ↦ other_gives says block V O S k lt others distinct enabling refl v i j lj ne
  ]

  pub group_confirmed : IsNext says block None → group_by block V O S ≡ committed (group_by says V O S) (only_change (set_of S k).slot enabling) None
  group_confirmed next = makes_more says block V O S (only_change (set_of S k).slot enabling) None k lt (record {
    note_is = next.note;
    sequence_is = next.sequence;
    new = ap (λ (set : ShadowState). set ∷ []) (sym set_is);
    was = cf.pending;
    now = live_now;
    over = cf.over;
    last = cf.last;
    each = λ j lj ne. record {
      stays = λ was is. other_set says block V O S k lt others distinct enabling refl j lj ne;
      goes = λ was is. absurd (never (sym was ∙ sym (other_enabled says block V O S k lt others distinct enabling refl j lj ne) ∙ is));
      comes = λ was. other_enabled says block V O S k lt others distinct enabling refl j lj ne ∙ was;
    };
    images = λ v l. volume_like says block V O S v (λ i li. gives v i)
        ∙ sym (image_as_it_is says V O S (only_change (set_of S k).slot enabling) (no_master says block V O S k lt others distinct enabling refl) v (volume_by says V O S v));
  })

  pub whole_confirmed : AreWhole block V O S
  whole_confirmed = whole_one says block V O S k lt w others (record {
    shadow = (w.each k lt).shadow;
    bitmap = (w.each k lt).bitmap;
    kind = λ live. ap (λ (x : SlotSays). x.kind) cf.slot;
    off = λ live off. absurd (never (sym off ∙ ap (λ (x : SlotSays). is_offline x.standing) cf.slot));
    placed = λ live. record { each = λ c d ne some other same. some (zero_now c) };
    alike = λ live on. record { same = λ i l one. absurd (zero_one (now (i / 64)) (zero_now (i / 64)) one) };
  })
      (λ i li ne. record {
        splits = λ live live' on same c l three. absurd (not_three c three);
        alone = λ live live' same c l three. absurd (not_three c three);
      })
      (λ i li ne. record {
        splits = λ live live' on same c l three. absurd (before i li ne live same c l three);
        alone = λ live live' same c l three. absurd (before i li ne live same c l three);
      })
      (λ i li ne. record { each = λ live live' same c d slot some at other there. some (zero_now c) })
    where
      zero_one : (m : ℕ) → m ≡ 0 → m ≡ 1 → ⊥
      zero_one m a b = omega (arith, a, b)

      before : (i : ℕ) → i < length S → i ≢ k → is_enabled block (set_of S i) ≡ true → (set_of S i).master ≡ (set_of S k).master → (c : ℕ) → c < chunks_of (set_of S i) → (chunks_by block (set_of S i)).state c ≡ 3 → ⊥
      before i li ne live same c l three =
          let is = others.each i li ne in
          cf.none i li (ap (λ (x : SlotSays). x.enabled) (sym is) ∙ live) same c l (ap (λ (x : SlotSays). ((set_of S i).area x.area_b).state c) (sym is) ∙ three)

-- the block is written; in memory the set has its first area live, and no chunk with contents of its own
pub confirm_goes : (g : GroupSeen) (inv : IsKept g.volumes g.overs g.sets) (k : ℕ) (lt : k < length g.sets) (block : BlockSays) {T E : Type 0} (r : Result T E) (new : GroupSeen) → Commits g block r new
    → IsNext g.memory block None → KeepsOthers g.memory block g.sets k
    → (IsWhole g → IsInStep g → Confirms g.says block g.sets k)
    → (set_of g.sets k).live_b ≡ false → AreSame ((set_of g.sets k).area false) (set_of g.sets k).memory (chunks_of (set_of g.sets k))
    → Goes g (Commit (only_change (set_of g.sets k).slot (Enabled (set_of g.sets k).kind (set_of g.sets k).master (set_of g.sets k).size (behind_of (set_of g.sets k)))) None ∷ []) r new
confirm_goes g inv k lt block r new cm next others confirms live_b memory = commit_goes g block _ r new cm
    (λ w i. group_confirmed g.says block g.volumes g.overs g.sets k lt (confirms w i) (others_disk i) distinct w.disks fits (next_disk i))
    (λ w i. whole_confirmed g.says block g.volumes g.overs g.sets k lt (confirms w i) (others_disk i) distinct w.disks fits)
    (λ w i j lj. elim (cases_eq j k) [
      | inl is ↦ subst (λ (x : ℕ). IsStep block (set_of g.sets x)) (sym is) (record {
        area = λ live. live_b ∙ sym (ap (λ (x : SlotSays). x.area_b) (confirms w i).slot);
        chunks = λ live. subst (λ (b : Bool). AreSame ((set_of g.sets k).area b) (set_of g.sets k).memory (chunks_of (set_of g.sets k))) (sym live_b) memory;
      })
      | inr ne ↦
          let same = (others_disk i).each j lj ne in
          step_like g.says block (set_of g.sets j) (λ l. ap (λ (x : SlotSays). x.enabled) (sym same) ∙ l) (λ l. ap (λ (x : SlotSays). x.area_b) same)
          (subst (λ (b : BlockSays). IsStep b (set_of g.sets j)) i.block (i.each j lj))
    ])
  where
    next_disk : IsInStep g → IsNext g.says block None
    next_disk i = subst (λ (b : BlockSays). IsNext b block None) i.block next

    others_disk : IsInStep g → KeepsOthers g.says block g.sets k
    others_disk i = subst (λ (b : BlockSays). KeepsOthers b block g.sets k) i.block others

    distinct : (i : ℕ) → i < length g.sets → (set_of g.sets i).slot ≡ (set_of g.sets k).slot → i ≡ k
    distinct i li same = inv.distinct i k li lt same

    fits : (i : ℕ) → i < length g.sets → Fits g.volumes (set_of g.sets i)
    fits i li = fits_of g.volumes g.overs (set_of g.sets i) (inv.held i li)
