-- The lists of chunks of a set of which one state changes, or none.
use Rattle.std.proofs.Common.{◌≡◌, ◌≢◌, inl, inr, ℕ, ◌<◌, ◌≤◌, Bool, true, false, not, cond, eqb, ◌||◌, ◌&&◌, nat_lt, ◌∙◌, sym, refl, ap, arith}
use Rattle.std.proofs.Math.Path.{fun_ext}
use Rattle.std.proofs.lemmas.Bool.{cases_lt, cases_eq, eq-eqb, ne_eqb}
use Rattle.std.proofs.lemmas.Bool.Decides.{nat_tests}
use Rattle.avs_seg.specs.Segment.{seg_count}
use Rattle.avs_seg.specs.Image.{Image}
use Rattle.avs_model.specs.declared.shadow.Kind.{Kind}
use Rattle.avs_model.specs.ShadowSets.{ChunkList, ChunkLists, no_chunks, with_chunk, without_chunk, is_independent, is_offline, lists_written, lists_copied, chunk_written, chunk_copied}
use Rattle.avs_sets.specs.Says.{SlotSays}
use Rattle.avs_sets.specs.Sets.{SetSeen, SetRead, shadow_block}
use Rattle.avs_sets.specs.Meaning.{chunks_with, chunks_touched, lists_by, contents_by, shadow_over, state_of}
use Rattle.avs_sets.specs.Goes.{IsSameSet}
use Rattle.avs_sets.proofs.Lift.{same_tabulate}

there : (c n : ℕ) → c < n → nat_lt c n ≡ true
there c n lt = grind (arith, nat_tests)

gone : (c n : ℕ) → n ≤ c → nat_lt c n ≡ false
gone c n le = grind (arith, nat_tests)

-- the chunks whose state passes a test
abbrev pub passing : ℕ → (ℕ → Bool) → (ℕ → ℕ) → ChunkList
passing n q state c = nat_lt c n && q (state c)

-- one state of n changes
module _ (n chunk : ℕ) (lt : chunk < n) (old new : ℕ → ℕ) (others : (c : ℕ) → c < n → c ≢ chunk → new c ≡ old c) (q : ℕ → Bool) where
  elsewhere : (c : ℕ) → c ≢ chunk → passing n q new c ≡ passing n q old c
  elsewhere c ne = elim (cases_lt c n) [
    | inl l ↦ ap (λ (k : ℕ). nat_lt c n && q k) (others c l ne)
    | inr le ↦ ap (λ (b : Bool). b && q (new c)) (gone c n le) ∙ sym (ap (λ (b : Bool). b && q (old c)) (gone c n le))
  ]

  at_one : (c : ℕ) → c ≡ chunk → (b : Bool) → q (new chunk) ≡ b → passing n q new c ≡ b
  at_one c same b is = ap (λ (k : ℕ). nat_lt k n && q (new k)) same ∙ ap (λ (x : Bool). x && q (new chunk)) (there chunk n lt) ∙ is

  pub goes_in : q (new chunk) ≡ true → passing n q new ≡ with_chunk (passing n q old) chunk
  goes_in is = fun_ext (λ c. elim (cases_eq c chunk) [
    | inl same ↦ at_one c same true is ∙ sym (ap (λ (b : Bool). b || passing n q old c) (eq-eqb c chunk same))
    | inr ne ↦ elsewhere c ne ∙ sym (ap (λ (b : Bool). b || passing n q old c) (ne_eqb c chunk ne))
  ])

  pub goes_out : q (new chunk) ≡ false → passing n q new ≡ without_chunk (passing n q old) chunk
  goes_out is = fun_ext (λ c. elim (cases_eq c chunk) [
    | inl same ↦ at_one c same false is ∙ sym (ap (λ (b : Bool). not b && passing n q old c) (eq-eqb c chunk same))
    | inr ne ↦ elsewhere c ne ∙ sym (ap (λ (b : Bool). not b && passing n q old c) (ne_eqb c chunk ne))
  ])

  pub stays_in : q (new chunk) ≡ q (old chunk) → passing n q new ≡ passing n q old
  stays_in is = fun_ext (λ c. elim (cases_eq c chunk) [
    | inl same ↦ at_one c same (q (old chunk)) is ∙ sym (ap (λ (k : ℕ). nat_lt k n && q (old k)) same ∙ ap (λ (x : Bool). x && q (old chunk)) (there chunk n lt))
    | inr ne ↦ elsewhere c ne
  ])

no_without : (c : ℕ) → no_chunks ≡ without_chunk no_chunks c
no_without c = fun_ext (λ k. none (eqb k c))
  where
    none : (b : Bool) → false ≡ (not b && false)
    none true = refl
    none false = refl

-- ---- the lists

module _ (kind : Kind) (blocks : ℕ) (stopped : Bool) (old new : ℕ → ℕ) (chunk target : ℕ) (lt : chunk < seg_count blocks) (now : new chunk ≡ target)
    (others : (c : ℕ) → c < seg_count blocks → c ≢ chunk → new c ≡ old c) where
  in_list : (q : ℕ → Bool) → q target ≡ true → passing (seg_count blocks) q new ≡ with_chunk (passing (seg_count blocks) q old) chunk
  in_list q is = goes_in (seg_count blocks) chunk lt old new others q (ap q now ∙ is)

  out_list : (q : ℕ → Bool) → q target ≡ false → passing (seg_count blocks) q new ≡ without_chunk (passing (seg_count blocks) q old) chunk
  out_list q is = goes_out (seg_count blocks) chunk lt old new others q (ap q now ∙ is)

  same_list : (q : ℕ → Bool) → q target ≡ q (old chunk) → passing (seg_count blocks) q new ≡ passing (seg_count blocks) q old
  same_list q is = stays_in (seg_count blocks) chunk lt old new others q (ap q now ∙ is)

  left_out : (d : Bool) → eqb target 0 ≡ false → cond d (chunks_with blocks new 0) no_chunks ≡ without_chunk (cond d (chunks_with blocks old 0) no_chunks) chunk
  left_out true is = out_list (λ k. eqb k 0) is
  left_out false is = no_without chunk

  touched_in : (d : Bool) → target ≡ 2 → cond d no_chunks (chunks_touched blocks new) ≡ cond d (cond d no_chunks (chunks_touched blocks old)) (with_chunk (cond d no_chunks (chunks_touched blocks old)) chunk)
  touched_in true is = refl
  touched_in false is = in_list (λ k. not (eqb k 0)) (ap (λ (k : ℕ). not (eqb k 0)) is)

  -- a chunk is split
  pub lists_split : target ≡ 2 → lists_by kind blocks new stopped ≡ lists_written kind chunk (lists_by kind blocks old stopped)
  lists_split is = λ p. record {
    touched = touched_in (is_independent kind) is p;
    moved = in_list (λ k. eqb k 2) (ap (λ (k : ℕ). eqb k 2) is) p;
    left = left_out (is_independent kind) (ap (λ (k : ℕ). eqb k 0) is) p;
    back = out_list (λ k. eqb k 3) (ap (λ (k : ℕ). eqb k 3) is) p;
    stopped = stopped;
  }

  touched_same : (d : Bool) → target ≡ 1 → (d ≡ false → old chunk ≡ 3) → cond d no_chunks (chunks_touched blocks new) ≡ cond d no_chunks (chunks_touched blocks old)
  touched_same true is three = refl
  touched_same false is three = same_list (λ k. not (eqb k 0)) (ap (λ (k : ℕ). not (eqb k 0)) is ∙ sym (ap (λ (k : ℕ). not (eqb k 0)) (three refl)))

  -- a chunk is copied
  pub lists_joined : target ≡ 1 → (is_independent kind ≡ false → old chunk ≡ 3) → old chunk ≢ 2 → lists_by kind blocks new stopped ≡ lists_copied chunk (lists_by kind blocks old stopped)
  lists_joined is three two = λ p. record {
    touched = touched_same (is_independent kind) is three p;
    moved = same_list (λ k. eqb k 2) (ap (λ (k : ℕ). eqb k 2) is ∙ sym (ne_eqb (old chunk) 2 two)) p;
    left = left_out (is_independent kind) (ap (λ (k : ℕ). eqb k 0) is) p;
    back = out_list (λ k. eqb k 3) (ap (λ (k : ℕ). eqb k 3) is) p;
    stopped = stopped;
  }

-- no state changes
pub lists_same : (kind : Kind) (blocks : ℕ) (stopped : Bool) (old new : ℕ → ℕ) → ((c : ℕ) → c < seg_count blocks → new c ≡ old c) → lists_by kind blocks new stopped ≡ lists_by kind blocks old stopped
lists_same kind blocks stopped old new same = λ p. record {
  touched = ap (λ (l : ChunkList). cond (is_independent kind) no_chunks l) (each (λ k. not (eqb k 0))) p;
  moved = each (λ k. eqb k 2) p;
  left = ap (λ (l : ChunkList). cond (is_independent kind) l no_chunks) (each (λ k. eqb k 0)) p;
  back = each (λ k. eqb k 3) p;
  stopped = stopped;
}
  where
    each : (q : ℕ → Bool) → passing (seg_count blocks) q new ≡ passing (seg_count blocks) q old
    each q = fun_ext (λ c. elim (cases_lt c (seg_count blocks)) [
      | inl l ↦ ap (λ (k : ℕ). nat_lt c (seg_count blocks) && q k) (same c l)
      | inr le ↦ ap (λ (b : Bool). b && q (new c)) (gone c (seg_count blocks) le) ∙ sym (ap (λ (b : Bool). b && q (old c)) (gone c (seg_count blocks) le))
    ])

-- a chunk of a set that is not independent leaves no list by a copy, where its contents do not stand on the shadow alone
pub lists_spared : (kind : Kind) (blocks : ℕ) (stopped : Bool) (state : ℕ → ℕ) (chunk : ℕ) → is_independent kind ≡ false → state chunk ≢ 3
    → lists_copied chunk (lists_by kind blocks state stopped) ≡ lists_by kind blocks state stopped
lists_spared kind blocks stopped state chunk dependent ne = λ p. record (lists_by kind blocks state stopped) {
  left = left_spared (is_independent kind) dependent p;
  back = fun_ext (λ c. back_spared c (eqb c chunk) refl) p;
}
  where
    left_spared : (d : Bool) → d ≡ false → without_chunk (cond d (chunks_with blocks state 0) no_chunks) chunk ≡ cond d (chunks_with blocks state 0) no_chunks
    left_spared true is = elim (never is) [ ]
      where
        never : true ≡ false → ⊥
        never is = cc
    left_spared false is = sym (no_without chunk)

    back_spared : (c : ℕ) (b : Bool) → eqb c chunk ≡ b → (not b && passing (seg_count blocks) (λ k. eqb k 3) state c) ≡ passing (seg_count blocks) (λ k. eqb k 3) state c
    back_spared c false is = refl
    back_spared c true is = elim (cases_eq c chunk) [
      | inl same ↦ sym (ap (λ (k : ℕ). nat_lt c (seg_count blocks) && eqb k 3) (ap state same) ∙ ap (λ (b : Bool). nat_lt c (seg_count blocks) && b) (ne_eqb (state chunk) 3 ne) ∙ and_false (nat_lt c (seg_count blocks)))
      | inr other ↦ elim (never (sym is ∙ ne_eqb c chunk other)) [ ]
    ]
      where
        never : true ≡ false → ⊥
        never is = cc

        and_false : (b : Bool) → (b && false) ≡ false
        and_false true = refl
        and_false false = refl

-- ---- the state of a set whose shadow keeps its blocks

module _ (slot : SlotSays) (s s' : SetSeen) (same : IsSameSet s s') (one one' : SetRead) (m m' behind behind' : Image) (blocks : one'.blocks ≡ one.blocks)
    (shadow : (i : ℕ) → i < one.blocks → shadow_block one' m' i ≡ shadow_block one m i) (behind_is : behind' ≡ behind) where
  image_is : shadow_over one' m' ≡ shadow_over one m
  image_is = same_tabulate _ _ _ _ blocks (λ i l. shadow i (omega (arith, l, blocks)))

  pub state_is : (lists : ChunkLists) → lists_by s.kind one.blocks one'.state slot.stopped ≡ lists → state_of s' slot one' m' behind' ≡ record (state_of s slot one m behind) { lists = lists }
  state_is lists is = λ p. record {
    slot = same.slot p;
    kind = same.kind p;
    master = same.master p;
    size = same.size p;
    over = same.over p;
    lists = ((λ p. lists_by (same.kind p) (blocks p) one'.state slot.stopped) ∙ is) p;
    standing = slot.standing;
    contents = contents_by slot.standing (image_is p) (behind_is p);
  }

  pub state_same : ((c : ℕ) → c < seg_count one.blocks → one'.state c ≡ one.state c) → state_of s' slot one' m' behind' ≡ state_of s slot one m behind
  state_same states = state_is (lists_by s.kind one.blocks one.state slot.stopped) (lists_same s.kind one.blocks slot.stopped one.state one'.state states)

  module _ (chunk target : ℕ) (lt : chunk < seg_count one.blocks) (now : one'.state chunk ≡ target) (others : (c : ℕ) → c < seg_count one.blocks → c ≢ chunk → one'.state c ≡ one.state c) where
    pub state_written : target ≡ 2 → is_offline slot.standing ≡ false → state_of s' slot one' m' behind' ≡ chunk_written chunk (state_of s slot one m behind)
    state_written is on =
        state_is _ (lists_split s.kind one.blocks slot.stopped one.state one'.state chunk target lt now others is)
        ∙ sym (ap (λ (b : Bool). cond b (chunk_copied chunk (state_of s slot one m behind)) (record (state_of s slot one m behind) { lists = lists_written s.kind chunk (lists_by s.kind one.blocks one.state slot.stopped) })) on)

    pub state_copied : target ≡ 1 → (is_independent s.kind ≡ false → one.state chunk ≡ 3) → one.state chunk ≢ 2 → state_of s' slot one' m' behind' ≡ chunk_copied chunk (state_of s slot one m behind)
    state_copied is three two = state_is _ (lists_joined s.kind one.blocks slot.stopped one.state one'.state chunk target lt now others is three two)
