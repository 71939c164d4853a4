-- What both images are once a set was updated part by part: what they were.
use Rattle.std.proofs.Common.{◌≡◌, ◌≢◌, ◌⊎◌, inl, inr, ℕ, ◌/◌, ◌%◌, ◌<◌, Bool, true, false, eqb, List, ◌∙◌, sym, ap, arith}
use Rattle.std.specs.Prelude.{◌&&◌}
use Rattle.std.proofs.lemmas.Bool.{cases_Bool, cases_eq, eq-eqb}
use Rattle.avs_seg.specs.Image.{block_at}
use Rattle.avs_dev.specs.Seen.{Seen, IsTold}
use Rattle.avs_over.specs.Over.{OverSet}
use Rattle.avs_entries.specs.Entries.{state_by, slot_by, entry_for}
use Rattle.avs_entries.proofs.Counted.{cond_is, cond_not}
use Rattle.avs_compact.specs.CompactSet.{CompactSet, disk_of, chunks_of, entry_of, disk_entry, next_of, in_slot}
use Rattle.avs_compact.specs.Calls.{IsKnown}
use Rattle.avs_compact.specs.Keeping.{IsPlaced, stands, shadow_block, master_block, KeepsBlocks}
use Rattle.avs_compact.specs.Ahead.{AreCopied, slot_ahead, told_from}
use Rattle.avs_compact.specs.Updating.{is_ahead_in, told_in, split_in, UpdatesParts, AreBack}
use Rattle.avs_compact.proofs.Placed.{placed_same, only_takes_none}
use Rattle.avs_compact.proofs.Settled.{zero_state}
use Rattle.avs_compact.proofs.SplitCounts.{SplitsWith, kept_entry}
use Rattle.avs_compact.proofs.PartsTurned.{by_told, parts_entries, parts_leave, parts_placed, parts_slots}

two_state : (e slot : ℕ) → e ≡ entry_for 2 slot → slot ≡ slot_by e → state_by e ≡ 2
two_state e slot is same = omega (arith, is, same)

module _ (old new : CompactSet) (o o' : OverSet) (bits : ℕ → List ℕ) (u : UpdatesParts old o bits new o') (kn : IsKnown old o) (p : IsPlaced old o) (td : IsTold u.master) (are_back : AreBack old bits) where
  w : SplitsWith (entry_of old) (split_in u.mid bits) (next_of u.mid) (is_ahead_in bits (entry_of old)) (chunks_of old)
  w = parts_slots old new o o' bits u p

  copied : AreCopied old o u.master.image (told_from (is_ahead_in bits (entry_of old)) 0 (chunks_of old)) u.mid o'
  copied = u.copies.copied td kn.shadow kn.over

  master_same : (i : ℕ) → block_at u.master_mid.image i ≡ block_at u.master.image i
  master_same i = ap (λ (d : Seen). block_at d.image i) u.copies.keeps.master

  chunk_in : (i : ℕ) → i < old.blocks → i / 64 < chunks_of old
  chunk_in i lt = omega (arith, lt)

  blocks_same : new.blocks ≡ old.blocks
  blocks_same = ap (λ (x : CompactSet). x.blocks) u.turns.rest ∙ ap (λ (x : CompactSet). x.blocks) u.stages.is ∙ ap (λ (x : CompactSet). x.blocks) u.copies.keeps.is

  disk_old : (c : ℕ) → c < chunks_of old → disk_entry old c ≡ entry_of old c
  disk_old c lt = sym (kn.step.each c lt)

  disk_new : (c : ℕ) → c < chunks_of old → disk_entry new c ≡ split_in u.mid bits c
  disk_new c lt = sym (((parts_leave old new o o' bits u p).known kn).step.each c (omega (arith, lt, blocks_same))) ∙ parts_entries old new o o' bits u p c lt

  -- an entry that is told tells that its chunk is split, and another is as before
  is_told : (c : ℕ) → c < chunks_of old → told_in bits c ≡ true → state_by (split_in u.mid bits c) ≡ 2
  is_told c lt is = elim (cases_eq (entry_of old c) 0) [
    | inl none ↦
        let e = by_told old u.mid o o' u.master u.master_mid bits u.copies p.form c lt true is ∙ cond_is (entry_of old c) 0 _ _ none in
        let ahead : is_ahead_in bits (entry_of old) c ≡ true = ahead_of c is none in
        two_state (split_in u.mid bits c) (slot_ahead u.mid c) (e ∙ (u.copies.kept.kept c (omega arith) lt ahead).entry) (ap slot_by (sym e))
    | inr some ↦
        let e = by_told old u.mid o o' u.master u.master_mid bits u.copies p.form c lt true is ∙ cond_not (entry_of old c) 0 _ _ some in
        two_state (split_in u.mid bits c) (slot_by (entry_of old c)) e (sym (w.had c lt some).slot)
  ]
    where
      ahead_of : (k : ℕ) → told_in bits k ≡ true → entry_of old k ≡ 0 → is_ahead_in bits (entry_of old) k ≡ true
      ahead_of k is none = ap (λ (t : Bool). t && eqb (entry_of old k) 0) is ∙ eq-eqb (entry_of old k) 0 none

  not_told : (c : ℕ) → c < chunks_of old → told_in bits c ≡ false → split_in u.mid bits c ≡ entry_of old c
  not_told c lt is = by_told old u.mid o o' u.master u.master_mid bits u.copies p.form c lt false is

  -- a chunk that was not split is not told, or it is split then
  state_was : (c state : ℕ) → c < chunks_of old → state ≢ 2 → state_by (disk_entry new c) ≡ state → state_by (disk_entry old c) ≡ state
  state_was c state lt ne is = elim (cases_Bool (told_in bits c)) [
    | inl told ↦ absurd (ne (sym is ∙ ap state_by (disk_new c lt) ∙ is_told c lt told))
    | inr no_told ↦ ap state_by (disk_old c lt ∙ sym (not_told c lt no_told) ∙ sym (disk_new c lt)) ∙ is
  ]

  -- what stands in the slot of a chunk
  now_stands : (i : ℕ) → i < old.blocks → stands new o' i ≡ in_slot old.own (disk_of u.mid.shadow).image o'.disk.image (slot_by (split_in u.mid bits (i / 64))) (i % 64)
  now_stands i lt =
      ap (λ (x : CompactSet). in_slot x.own (disk_of x.shadow).image o'.disk.image (slot_by (disk_entry new (i / 64))) (i % 64)) u.turns.rest
      ∙ ap (λ (x : CompactSet). in_slot x.own (disk_of x.shadow).image o'.disk.image (slot_by (disk_entry new (i / 64))) (i % 64)) u.stages.is
      ∙ ap (λ (n : ℕ). in_slot n (disk_of u.mid.shadow).image o'.disk.image (slot_by (disk_entry new (i / 64))) (i % 64)) (ap (λ (x : CompactSet). x.own) u.copies.keeps.is)
      ∙ ap (λ (e : ℕ). in_slot old.own (disk_of u.mid.shadow).image o'.disk.image (slot_by e) (i % 64)) (disk_new (i / 64) (chunk_in i lt))

  -- of one that had it, what stood there
  stands_same : (i : ℕ) → i < old.blocks → entry_of old (i / 64) ≢ 0 → stands new o' i ≡ stands old o i
  stands_same i lt some =
      now_stands i lt
      ∙ ap (λ (k : ℕ). in_slot old.own (disk_of u.mid.shadow).image o'.disk.image k (i % 64)) (w.had (i / 64) (chunk_in i lt) some).slot
      ∙ copied.others (slot_by (entry_of old (i / 64))) (i % 64) (omega arith) (λ c from below is same. (u.copies.kept.kept c from below is).apart p (i / 64) (chunk_in i lt) some (sym same))
      ∙ ap (λ (e : ℕ). in_slot old.own (disk_of old.shadow).image o.disk.image (slot_by e) (i % 64)) (sym (disk_old (i / 64) (chunk_in i lt)))

  -- ---- the blocks

  shadow_same : (i : ℕ) → i < old.blocks → shadow_block new o' u.master_mid.image i ≡ shadow_block old o u.master.image i
  shadow_same i lt = elim (cases_eq (entry_of old (i / 64)) 0) [
    | inl none ↦ of_none none (cases_Bool (is_ahead_in bits (entry_of old) (i / 64)))
    | inr some ↦
        cond_not (disk_entry new (i / 64)) 0 _ _ (λ z. (w.had (i / 64) (chunk_in i lt) some).some (sym (disk_new (i / 64) (chunk_in i lt)) ∙ z))
        ∙ stands_same i lt some
        ∙ sym (cond_not (disk_entry old (i / 64)) 0 _ _ (λ z. some (sym (disk_old (i / 64) (chunk_in i lt)) ∙ z)))
  ]
    where
      was : entry_of old (i / 64) ≡ 0 → shadow_block old o u.master.image i ≡ block_at u.master.image i
      was none = cond_is (disk_entry old (i / 64)) 0 _ _ (disk_old (i / 64) (chunk_in i lt) ∙ none)

      of_none : entry_of old (i / 64) ≡ 0 → (is_ahead_in bits (entry_of old) (i / 64) ≡ true) ⊎ (is_ahead_in bits (entry_of old) (i / 64) ≡ false) → shadow_block new o' u.master_mid.image i ≡ shadow_block old o u.master.image i
      of_none none (inl is) =
          let t = w.took (i / 64) (chunk_in i lt) is in
          cond_not (disk_entry new (i / 64)) 0 _ _ (λ z. (kept_entry (next_of u.mid (i / 64)) (u.copies.kept.kept (i / 64) (omega arith) (chunk_in i lt) is).entry).0 (sym t.1 ∙ sym (disk_new (i / 64) (chunk_in i lt)) ∙ z))
          ∙ now_stands i lt
          ∙ ap (λ (e : ℕ). in_slot old.own (disk_of u.mid.shadow).image o'.disk.image (slot_by e) (i % 64)) t.1
          ∙ ap (λ (n : ℕ). in_slot n (disk_of u.mid.shadow).image o'.disk.image (slot_ahead u.mid (i / 64)) (i % 64)) (sym (ap (λ (x : CompactSet). x.own) u.copies.keeps.is))
          ∙ copied.each i lt (omega arith) (chunk_in i lt) is
          ∙ sym (was none)
      of_none none (inr not_ahead) =
          cond_is (disk_entry new (i / 64)) 0 _ _ (disk_new (i / 64) (chunk_in i lt) ∙ w.none (i / 64) (chunk_in i lt) none not_ahead)
          ∙ master_same i
          ∙ sym (was none)

  master_stays : (i : ℕ) → i < old.blocks → master_block new o' u.master_mid.image i ≡ master_block old o u.master.image i
  master_stays i lt = elim (cases_eq (state_by (disk_entry old (i / 64))) 3) [
    | inl three ↦
        let c = chunk_in i lt in
        let e3 : state_by (entry_of old (i / 64)) ≡ 3 = ap state_by (sym (disk_old (i / 64) c)) ∙ three in
        elim (cases_Bool (told_in bits (i / 64))) [
          | inl told ↦ absurd (are_back.each (i / 64) c told e3)
          | inr no_told ↦
              cond_is (state_by (disk_entry new (i / 64))) 3 _ _ (ap state_by (disk_new (i / 64) c ∙ not_told (i / 64) c no_told) ∙ e3)
              ∙ stands_same i lt (λ z. (let zero_is = zero_state (entry_of old (i / 64)) z in omega (arith, zero_is, e3)))
              ∙ sym (cond_is (state_by (disk_entry old (i / 64))) 3 _ _ three)
        ]
    | inr other ↦
        cond_not (state_by (disk_entry new (i / 64))) 3 _ _ (λ is. other (state_was (i / 64) 3 (chunk_in i lt) (λ e. omega (arith, e)) is))
        ∙ master_same i
        ∙ sym (cond_not (state_by (disk_entry old (i / 64))) 3 _ _ other)
  ]

  pub parts_seen : KeepsBlocks old o u.master.image new o' u.master_mid.image
  parts_seen = record {
    shadow = shadow_same;
    master = master_stays;
    only = λ i lt ne. master_same i;
    alike = λ a. record {
      same = λ i lt one.
          let l : i < old.blocks = omega (arith, lt, blocks_same) in
          let was = state_was (i / 64) 1 (chunk_in i l) (λ e. omega (arith, e)) one in
          stands_same i l (λ z. (let zero_is = zero_state (entry_of old (i / 64)) z in let one_is = ap state_by (sym (disk_old (i / 64) (chunk_in i l))) ∙ was in omega (arith, zero_is, one_is)))
          ∙ a.same i l was ∙ sym (master_same i);
    };
    back = λ c lt is. state_was c 3 lt (λ e. omega (arith, e)) is;
    splits = λ c lt is. elim (cases_Bool (told_in bits c)) [
      | inl told ↦ ap state_by (disk_new c lt) ∙ is_told c lt told
      | inr no_told ↦ ap state_by (disk_new c lt ∙ not_told c lt no_told ∙ sym (disk_old c lt)) ∙ is
    ];
    slots = λ c lt some. (let had = w.had c lt (λ z. some (disk_old c lt ∙ z)) in
        ((λ z. had.some (sym (disk_new c lt) ∙ z)), ap slot_by (disk_new c lt) ∙ had.slot ∙ ap slot_by (sym (disk_old c lt))));
    placed = placed_same (split_in u.mid bits) (disk_entry new) old.own (chunks_of old) old.set o'.owners o'.owners disk_new (only_takes_none old.set o'.owners) (parts_placed old new o o' bits u p);
  }
