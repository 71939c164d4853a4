-- Chunks of a set are saved one after another: that is a stage for each.
use Rattle.std.proofs.Common.{◌≡◌, ◌≢◌, ◌⊎◌, inl, inr, ℕ, zero, suc, ◌+◌, ◌-◌, ◌<◌, ◌≤◌, Bool, true, false, cond, eqb, Option, Some, List, [], ◌∷◌, length, map, Result, ◌∙◌, sym, refl, ap, subst, arith}
use Rattle.std.specs.List.{range_with_len}
use Rattle.std.proofs.lemmas.Bool.{cases_eq, cases_lt, eq-eqb, ne_eqb}
use Rattle.std.proofs.lemmas.Result.{on_ok_weaker, on_err_weaker}
use Rattle.avs_seg.specs.Segment.{seg_count}
use Rattle.avs_seg.specs.Staged.{run, StoppedIn}
use Rattle.avs_seg.proofs.StagedLaws.{stopped-before}
use Rattle.avs_dev.specs.Seen.{Seen, shown}
use Rattle.avs_model.specs.ShadowSets.{SetSize, ShadowState, is_offline, lists_written, chunk_written, chunk_copied}
use Rattle.avs_model.specs.GroupStates.{GroupState}
use Rattle.avs_model.specs.GroupStages.{GroupStage, Mark, in_group}
use Rattle.avs_sets.specs.Says.{BlockSays}
use Rattle.avs_sets.specs.Sets.{SetSeen, chunks_of}
use Rattle.avs_sets.specs.Meaning.{GroupSeen, set_of, disk_in, over_disk, slot_of, is_enabled, standing_of, chunks_by, lists_by, behind_of, meaning}
use Rattle.avs_sets.specs.Whole.{IsFree, IsWhole, IsInStep, IsKept}
use Rattle.avs_sets.specs.Goes.{Goes}
use Rattle.avs_sets.specs.Steps.{OnlyDisk, read_over, Splits, SplitsFirst, SavesRange}
use Rattle.avs_sets.proofs.Lists.{changed_at, changed_nothing}
use Rattle.avs_sets.proofs.Marks.{lists_split, lists_same, state_is}
use Rattle.avs_sets.proofs.Lifted.{with_step, stays, disks}
use Rattle.avs_sets.proofs.Settling.{state_was, lift, whole_now, step_now, known_then}

-- the stages of so many chunks from one on, and what they make of the set of that slot
abbrev pub marks : ℕ → ℕ → ℕ → List GroupStage
marks slot first n = map (λ chunk. Mark slot chunk) (range_with_len first n)

abbrev pub written_from : ℕ → ℕ → ShadowState → ShadowState
written_from first zero set = set
written_from first (suc n) set = written_from (first + 1) n (chunk_written first set)

-- ---- the group

written_slot : (chunk : ℕ) (set : ShadowState) → (chunk_written chunk set).slot ≡ set.slot
written_slot chunk set = go (is_offline set.standing)
  where
    go : (b : Bool) → (cond b (chunk_copied chunk set) (record set { lists = lists_written set.kind chunk set.lists })).slot ≡ set.slot
    go true = refl
    go false = refl

-- one change of the set of a slot, and then another
changed_twice : (slot : ℕ) (f g : ShadowState → ShadowState) → ((set : ShadowState) → (f set).slot ≡ set.slot) → (l : List ShadowState)
    → changed_at slot g (changed_at slot f l) ≡ changed_at slot (λ set. g (f set)) l
changed_twice slot f g same [] = refl
changed_twice slot f g same (x ∷ l) = λ i. one (eqb x.slot slot) refl i ∷ changed_twice slot f g same l i
  where
    one : (b : Bool) → eqb x.slot slot ≡ b → cond (eqb (cond b (f x) x).slot slot) (g (cond b (f x) x)) (cond b (f x) x) ≡ cond b (g (f x)) x
    one true is = ap (λ (b : Bool). cond b (g (f x)) (f x)) (ap (λ (n : ℕ). eqb n slot) (same x) ∙ is)
    one false is = ap (λ (b : Bool). cond b (g x) x) is

pub run_marks : (slot first n : ℕ) (group : GroupState) → run in_group group (marks slot first n) ≡ record group { sets = changed_at slot (written_from first n) group.sets }
run_marks slot first zero group = ap (λ (l : List ShadowState). record group { sets = l }) (sym (changed_nothing slot group.sets))
run_marks slot first (suc n) group =
    run_marks slot (first + 1) n (record group { sets = changed_at slot (chunk_written first) group.sets })
    ∙ ap (λ (l : List ShadowState). record group { sets = l }) (changed_twice slot (chunk_written first) (written_from (first + 1) n) (written_slot first) group.sets)

-- the first of them are done
pub stops_marks : (slot first k n : ℕ) (group : GroupState) → k ≤ n → StoppedIn in_group group (marks slot first n) (run in_group group (marks slot first k))
stops_marks slot first zero n group le = stopped-before in_group group (marks slot first n)
stops_marks slot first (suc k) zero group le = elim (none k le) [ ]
  where
    none : (k : ℕ) → suc k ≤ 0 → ⊥
    none k le = omega (arith, le)
stops_marks slot first (suc k) (suc n) group le = inr (inr (stops_marks slot (first + 1) k n (record group { sets = changed_at slot (chunk_written first) group.sets }) (omega (arith, le))))

-- ---- the set

-- the states once one more chunk is split
abbrev with_split : (ℕ → ℕ) → ℕ → ℕ → ℕ
with_split old chunk c = cond (eqb c chunk) 2 (old c)

module _ (set : ShadowState) (on : is_offline set.standing ≡ false) (blocks : ℕ) (stopped : Bool) where
  pub lists_from : (n first : ℕ) (old new : ℕ → ℕ) → first + n ≤ seg_count blocks → Splits old new (seg_count blocks) first (first + n)
      → written_from first n (record set { lists = lists_by set.kind blocks old stopped }) ≡ record set { lists = lists_by set.kind blocks new stopped }
  lists_from zero first old new le s = sym (λ p. record set { lists = lists_same set.kind blocks stopped old new (λ c lt. s.outside c lt (side c)) p })
    where
      side : (c : ℕ) → (c < first) ⊎ (first + 0 ≤ c)
      side c = elim (cases_lt c first) [ inl lt ↦ inl lt | inr le ↦ inr (omega (arith, le)) ]
  lists_from (suc n) first old new le s =
      ap (λ x. written_from (first + 1) n x) first_done
      ∙ lists_from n (first + 1) (with_split old first) new (omega (arith, le)) rest
    where
      here : with_split old first first ≡ 2
      here = ap (λ (b : Bool). cond b 2 (old first)) (eq-eqb first first refl)

      other : (c : ℕ) → c ≢ first → with_split old first c ≡ old c
      other c ne = ap (λ (b : Bool). cond b 2 (old c)) (ne_eqb c first ne)

      first_done : chunk_written first (record set { lists = lists_by set.kind blocks old stopped }) ≡ record set { lists = lists_by set.kind blocks (with_split old first) stopped }
      first_done =
          ap (λ (b : Bool). cond b (chunk_copied first (record set { lists = lists_by set.kind blocks old stopped })) (record set { lists = lists_written set.kind first (lists_by set.kind blocks old stopped) })) on
          ∙ sym (λ p. record set { lists = lists_split set.kind blocks stopped old (with_split old first) first 2 (omega (arith, le)) here (λ c lt ne. other c ne) refl p })

      rest : Splits (with_split old first) new (seg_count blocks) (first + 1) (first + 1 + n)
      rest = record {
        inside = λ c lt low high. s.inside c lt (omega (arith, low)) (omega (arith, high));
        outside = λ c lt out. elim (cases_eq c first) [
          | inl is ↦ s.inside c lt (omega (arith, is)) (omega (arith, is)) ∙ sym (ap (λ (k : ℕ). with_split old first k) is ∙ here)
          | inr ne ↦ s.outside c lt (further c ne out) ∙ sym (other c ne)
        ];
      }
        where
          further : (c : ℕ) → c ≢ first → (c < first + 1) ⊎ (first + 1 + n ≤ c) → (c < first) ⊎ (first + suc n ≤ c)
          further c ne (inl low) = inl (omega (arith, low, ne))
          further c ne (inr high) = inr (omega (arith, high))

-- ---- the step

module _ (g : GroupSeen) (inv : IsKept g.volumes g.overs g.sets) (k : ℕ) (lt : k < length g.sets) (s' : SetSeen) (V' O' : List (Option Seen))
    (only_v : OnlyDisk g.volumes V' (Some (set_of g.sets k).master)) (only_o : OnlyDisk g.overs O' (set_of g.sets k).over) (mine : ℕ → Type 0)
    {T E : Type 0} (r : Result T E) (live : is_enabled g.memory (set_of g.sets k) ≡ true)
    (free : IsWhole g → IsInStep g → (j : ℕ) → j < length g.sets → j ≢ k → (slot : ℕ) → mine slot → IsFree g.says (set_of g.sets j) (set_of g.sets k).over slot)
    (first end : ℕ) (ordered : first ≤ end) (inside : end ≤ chunks_of (set_of g.sets k)) (on : is_offline (standing_of g.memory (set_of g.sets k)) ≡ false)
    (st : SavesRange g.says mine (set_of g.sets k) (disk_in g.volumes (set_of g.sets k).master) (over_disk g.overs (set_of g.sets k).over) first end r s' (disk_in V' (set_of g.sets k).master) (over_disk O' (set_of g.sets k).over)) where
  abbrev was : ShadowState
  was = state_was g inv k lt s' V' O' only_v only_o mine r live free

  on_disk : IsInStep g → is_offline (standing_of g.says (set_of g.sets k)) ≡ false
  on_disk i = subst (λ (b : BlockSays). is_offline (standing_of b (set_of g.sets k)) ≡ false) i.block on

  upto : (w : IsWhole g) (i : IsInStep g) (n : ℕ) → first + n ≤ end → Splits (chunks_by g.says (set_of g.sets k)).state (chunks_by g.says s').state (chunks_of (set_of g.sets k)) first (first + n)
      → meaning (with_step g V' O' k s') ≡ run in_group (meaning g) (marks (set_of g.sets k).slot first n)
  upto w i n le splits =
      let kn = known_then g inv k lt s' V' O' only_v only_o mine r live free st.keeps w i in
      lift g inv k lt s' V' O' only_v only_o mine r live free st.keeps w i (written_from first n)
      (state_is (slot_of g.says (set_of g.sets k)) (set_of g.sets k) s' st.keeps.same
      (read_over g.says (set_of g.sets k) (over_disk g.overs (set_of g.sets k).over)) (read_over g.says s' (over_disk O' (set_of g.sets k).over))
      (shown (disk_in g.volumes (set_of g.sets k).master)) (shown (disk_in V' (set_of g.sets k).master)) (behind_of (set_of g.sets k)) (behind_of s') (ap (λ (s : SetSize). s.blocks) st.keeps.same.size) (st.shadow kn).shadow (st.keeps.read kn).behind
      (lists_by (set_of g.sets k).kind (set_of g.sets k).size.blocks (chunks_by g.says s').state (slot_of g.says (set_of g.sets k)).stopped) refl
      ∙ sym (lists_from was (on_disk i) (set_of g.sets k).size.blocks (slot_of g.says (set_of g.sets k)).stopped n first (chunks_by g.says (set_of g.sets k)).state (chunks_by g.says s').state (omega (arith, le, inside)) splits))
      ∙ sym (run_marks (set_of g.sets k).slot first n (meaning g))

  -- the chunks are written one after another
  pub saves_marks : Goes g (marks (set_of g.sets k).slot first (end - first)) r (with_step g V' O' k s')
  saves_marks = record {
    stays = stays g inv k lt s' V' O' only_v only_o mine r st.keeps;
    disks = disks g inv k lt s' V' O' only_v only_o mine r st.keeps;
    whole = whole_now g inv k lt s' V' O' only_v only_o mine r live free st.keeps;
    step = step_now g inv k lt s' V' O' only_v only_o mine r live free st.keeps;
    done = λ w i. on_ok_weaker r (λ s. upto w i (end - first) (omega (arith, ordered)) (subst (λ (n : ℕ). Splits (chunks_by g.says (set_of g.sets k)).state (chunks_by g.says s').state (chunks_of (set_of g.sets k)) first n) all s))
        (st.done (known_then g inv k lt s' V' O' only_v only_o mine r live free st.keeps w i));
    stopped = λ w i. on_err_weaker r (λ s. some w i s) (st.stopped (known_then g inv k lt s' V' O' only_v only_o mine r live free st.keeps w i));
  }
    where
      all : end ≡ first + (end - first)
      all = omega (arith, ordered)

      some : IsWhole g → IsInStep g → SplitsFirst (chunks_by g.says (set_of g.sets k)).state (chunks_by g.says s').state (chunks_of (set_of g.sets k)) first end
          → StoppedIn in_group (meaning g) (marks (set_of g.sets k).slot first (end - first)) (meaning (with_step g V' O' k s'))
      some w i s =
          let reached : s.upto ≡ first + (s.upto - first) = omega (arith, s.low) in
          subst (λ (m : GroupState). StoppedIn in_group (meaning g) (marks (set_of g.sets k).slot first (end - first)) m)
          (sym (upto w i (s.upto - first) (omega (arith, s.low, s.high)) (subst (λ (n : ℕ). Splits (chunks_by g.says (set_of g.sets k)).state (chunks_by g.says s').state (chunks_of (set_of g.sets k)) first n) reached s.splits)))
          (stops_marks (set_of g.sets k).slot first (s.upto - first) (end - first) (meaning g) (omega (arith, s.low, s.high)))
