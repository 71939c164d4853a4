-- A chunk of a set is settled: the copy, and then the state.
use Rattle.std.proofs.Common.{◌≡◌, ◌≢◌, ◌⊎◌, inl, inr, ℕ, ◌+◌, ◌-◌, ◌*◌, ◌/◌, ◌<◌, ◌≤◌, Bool, cond, eqb, List, Option, is_some, true, false, Result, Ok, Err, OnOk, OnErr, ◌∙◌, sym, refl, ap, subst, arith}
use Rattle.std.proofs.lemmas.Bool.{cases_lt, cases_eq}
use Rattle.std.proofs.lemmas.Result.{on_ok_weaker, on_err_weaker}
use Rattle.avs_seg.specs.Image.{Image, Block, block_at, range, ChangesWithin}
use Rattle.avs_seg.specs.Segment.{seg_len}
use Rattle.avs_seg.proofs.Blocks.{same_place}
use Rattle.avs_seg.proofs.Exits.{either}
use Rattle.avs_seg.proofs.Ranges.{block_at-range}
use Rattle.avs_dev.specs.Seen.{Seen, IsTold}
use Rattle.avs_dev.specs.Memory.{counted}
use Rattle.avs_dev.specs.Devices.{AllGoOn}
use Rattle.avs_dev.proofs.Going.{all_then, all_err}
use Rattle.avs_flip.specs.Areas.{Areas, live, live_from}
use Rattle.avs_chunks.specs.States.{state_in, state_on, SetsOne, AreSame}
use Rattle.avs_chunks.specs.ChunkSet.{ChunkSet, disk_of, state_of, disk_state, chunks_of, shadow_block, master_block, IsAlike, IsKnown, IsClean, IsCleanOnDisk}
use Rattle.avs_chunks.specs.Disks.{ChunkDisk, Master, Shadow, three, disk_at, raised, Adds, copy_work, settle_work}
use Rattle.avs_chunks.specs.Steps.{PutsState, HasStates, SetsState}
use Rattle.avs_chunks.specs.Calls.{KeepsBitmap, KeepsBlocks, KeepsBehind, KeepsSet, MaySettle, Settles}
use Rattle.avs_chunks.proofs.Going.{both_go, bitmap_goes, cond_is, cond_not, raised_most, each_disk}
use Rattle.avs_chunks.proofs.Copied.{Copied}

-- ---- block by block

pub outside : (chunk n i : ℕ) → i / 64 ≢ chunk → (i < 64 * chunk) ⊎ (64 * chunk + seg_len chunk n ≤ i)
outside chunk n i ne = elim (cases_lt i (64 * chunk)) [
  | inl low ↦ inl low
  | inr high ↦ inr (omega (arith, high, ne))
]

pub inside : (X Y : Image) (chunk n i : ℕ) → range X (64 * chunk) (seg_len chunk n) ≡ range Y (64 * chunk) (seg_len chunk n) → i < n → i / 64 ≡ chunk → block_at X i ≡ block_at Y i
inside X Y chunk n i same lt is =
    let j : i ≡ 64 * chunk + (i - 64 * chunk) = omega (arith, is) in
    let within : i - 64 * chunk < seg_len chunk n = omega (arith, is, lt) in
    same_place X i _ j ∙ sym (block_at-range X (64 * chunk) (seg_len chunk n) (i - 64 * chunk) within) ∙ ap (λ (img : Image). block_at img (i - 64 * chunk)) same ∙ block_at-range Y (64 * chunk) (seg_len chunk n) (i - 64 * chunk) within ∙ sym (same_place Y i _ j)

-- a choice by a state, made twice
pick_at : (n k : ℕ) (a b a' b' : Block) → (n ≡ k → a' ≡ a) → (n ≢ k → b' ≡ b) → cond (eqb n k) a' b' ≡ cond (eqb n k) a b
pick_at n k a b a' b' hit miss = elim (cases_eq n k) [
  | inl e ↦ cond_is n k a' b' e ∙ hit e ∙ sym (cond_is n k a b e)
  | inr ne ↦ cond_not n k a' b' ne ∙ miss ne ∙ sym (cond_not n k a b ne)
]

zero_three : (n : ℕ) → n ≡ 0 → n ≢ 3
zero_three n e f = omega (arith, e, f)

three_zero : (n : ℕ) → n ≡ 3 → n ≢ 0
three_zero n e f = omega (arith, e, f)

one_not : (n : ℕ) → n ≡ 1 → (n ≢ 0) × (n ≢ 3)
one_not n e = (λ f. omega (arith, e, f), λ f. omega (arith, e, f))

-- the states stay, or that of one chunk changes, whose contents then stand on both disks
module _ (s s' : ChunkSet) (m m' : Seen) (chunk target : ℕ) (blocks_is : s'.blocks ≡ s.blocks) (known : (c : ℕ) → c < chunks_of s → state_of s c ≡ disk_state s c) (may : MaySettle s chunk target)
    {T E : Type 0} (r : Result T E) (cp : Copied (state_of s chunk) m (disk_of s.shadow) (64 * chunk) (seg_len chunk s.blocks) r m' (disk_of s'.shadow)) (told : IsTold m) (told_s : IsTold (disk_of s.shadow)) where
  m_out : (i : ℕ) → i / 64 ≢ chunk → block_at m'.image i ≡ block_at m.image i
  m_out i ne = (cp.master_within told).outside i (outside chunk s.blocks i ne)

  s_out : (i : ℕ) → i / 64 ≢ chunk → block_at (disk_of s'.shadow).image i ≡ block_at (disk_of s.shadow).image i
  s_out i ne = (cp.shadow_within told_s).outside i (outside chunk s.blocks i ne)

  -- the state of the chunk in which a block lies
  state_is : (i : ℕ) → i < s.blocks → i / 64 ≡ chunk → disk_state s (i / 64) ≡ state_of s chunk
  state_is i lt is = ap (λ (c : ℕ). disk_state s c) is ∙ sym (known chunk may.there)

  m_same : (i : ℕ) → i < s.blocks → disk_state s (i / 64) ≢ 3 → block_at m'.image i ≡ block_at m.image i
  m_same i lt ne = elim (cases_eq (i / 64) chunk) [
    | inl is ↦ ap (λ (img : Image). block_at img i) (cp.master_same (λ e. ne (state_is i lt is ∙ e)))
    | inr other ↦ m_out i other
  ]

  s_same : (i : ℕ) → i < s.blocks → disk_state s (i / 64) ≢ 0 → block_at (disk_of s'.shadow).image i ≡ block_at (disk_of s.shadow).image i
  s_same i lt ne = elim (cases_eq (i / 64) chunk) [
    | inl is ↦ ap (λ (img : Image). block_at img i) (cp.shadow_same (λ e. ne (state_is i lt is ∙ e)))
    | inr other ↦ s_out i other
  ]

  pub same_states : AreSame (disk_state s) (disk_state s') (chunks_of s) → KeepsBlocks s m.image s' m'.image
  same_states same = record {
    shadow = λ i lt. ap (λ (n : ℕ). cond (eqb n 0) (block_at m'.image i) (block_at (disk_of s'.shadow).image i)) (at i lt) ∙ pick_at (disk_state s (i / 64)) 0 _ _ _ _ (λ e. m_same i lt (zero_three _ e)) (s_same i lt);
    master = λ i lt. ap (λ (n : ℕ). cond (eqb n 3) (block_at (disk_of s'.shadow).image i) (block_at m'.image i)) (at i lt) ∙ pick_at (disk_state s (i / 64)) 3 _ _ _ _ (λ e. s_same i lt (three_zero _ e)) (m_same i lt);
    only = m_same;
    alike = λ a. record {
      same = λ i lt one.
          let l : i < s.blocks = omega (arith, lt, blocks_is) in
          let e = sym (at i l) ∙ one in
          s_same i l (one_not _ e).0 ∙ a.same i l e ∙ sym (m_same i l (one_not _ e).1);
    };
    back = λ c lt e. sym (same.each c lt) ∙ e;
    split = λ c lt e. same.each c lt ∙ e;
  }
    where
      at : (i : ℕ) → i < s.blocks → disk_state s' (i / 64) ≡ disk_state s (i / 64)
      at i lt = same.each (i / 64) (omega (arith, lt))

  module _ (one : SetsOne (disk_state s) (disk_state s') (chunks_of s) chunk target) (x : T) (ok : r ≡ Ok x) where
    here : (i : ℕ) → i / 64 ≡ chunk → disk_state s' (i / 64) ≡ target
    here i is = ap (λ (c : ℕ). disk_state s' c) is ∙ one.now

    to_s : (i : ℕ) → i < s.blocks → i / 64 ≡ chunk → disk_state s (i / 64) ≡ 0 → block_at (disk_of s'.shadow).image i ≡ block_at m.image i
    to_s i lt is e = inside (disk_of s'.shadow).image m.image chunk s.blocks i (subst (λ (res : Result T E). OnOk res (range (disk_of s'.shadow).image (64 * chunk) (seg_len chunk s.blocks) ≡ range m.image (64 * chunk) (seg_len chunk s.blocks))) ok (cp.to_shadow told told_s (sym (state_is i lt is) ∙ e))) lt is

    to_m : (i : ℕ) → i < s.blocks → i / 64 ≡ chunk → disk_state s (i / 64) ≡ 3 → block_at m'.image i ≡ block_at (disk_of s.shadow).image i
    to_m i lt is e = inside m'.image (disk_of s.shadow).image chunk s.blocks i (subst (λ (res : Result T E). OnOk res (range m'.image (64 * chunk) (seg_len chunk s.blocks) ≡ range (disk_of s.shadow).image (64 * chunk) (seg_len chunk s.blocks))) ok (cp.to_master told told_s (sym (state_is i lt is) ∙ e))) lt is

    target_not : (n : ℕ) → (n ≡ 2) ⊎ (n ≡ 1) → (n ≢ 0) × (n ≢ 3)
    target_not n (inl e) = (λ f. omega (arith, e, f), λ f. omega (arith, e, f))
    target_not n (inr e) = (λ f. omega (arith, e, f), λ f. omega (arith, e, f))

    at : (i : ℕ) → i < s.blocks → i / 64 ≢ chunk → disk_state s' (i / 64) ≡ disk_state s (i / 64)
    at i lt ne = one.others (i / 64) (omega (arith, lt)) ne

    pub one_state : KeepsBlocks s m.image s' m'.image
    one_state = record { shadow = shadow; master = master; only = m_same; alike = alike; back = back; split = split }
      where
        shadow : (i : ℕ) → i < s.blocks → shadow_block s' m'.image i ≡ shadow_block s m.image i
        shadow i lt = elim (cases_eq (i / 64) chunk) [
          | inl is ↦
              ap (λ (n : ℕ). cond (eqb n 0) (block_at m'.image i) (block_at (disk_of s'.shadow).image i)) (here i is)
              ∙ cond_not target 0 _ _ (target_not target may.targets).0
              ∙ elim (cases_eq (disk_state s (i / 64)) 0) [
                | inl e ↦ to_s i lt is e ∙ sym (cond_is _ 0 _ _ e)
                | inr ne ↦ s_same i lt ne ∙ sym (cond_not _ 0 _ _ ne)
              ]
          | inr other ↦ ap (λ (n : ℕ). cond (eqb n 0) (block_at m'.image i) (block_at (disk_of s'.shadow).image i)) (at i lt other) ∙ pick_at (disk_state s (i / 64)) 0 _ _ _ _ (λ e. m_out i other) (λ e. s_out i other)
        ]

        master : (i : ℕ) → i < s.blocks → master_block s' m'.image i ≡ master_block s m.image i
        master i lt = elim (cases_eq (i / 64) chunk) [
          | inl is ↦
              ap (λ (n : ℕ). cond (eqb n 3) (block_at (disk_of s'.shadow).image i) (block_at m'.image i)) (here i is)
              ∙ cond_not target 3 _ _ (target_not target may.targets).1
              ∙ elim (cases_eq (disk_state s (i / 64)) 3) [
                | inl e ↦ to_m i lt is e ∙ sym (cond_is _ 3 _ _ e)
                | inr ne ↦ m_same i lt ne ∙ sym (cond_not _ 3 _ _ ne)
              ]
          | inr other ↦ ap (λ (n : ℕ). cond (eqb n 3) (block_at (disk_of s'.shadow).image i) (block_at m'.image i)) (at i lt other) ∙ pick_at (disk_state s (i / 64)) 3 _ _ _ _ (λ e. s_out i other) (λ e. m_out i other)
        ]

        -- a chunk that was copied is the same on both
        now_alike : (i : ℕ) → i < s.blocks → i / 64 ≡ chunk → (state_of s chunk ≡ 0) ⊎ (state_of s chunk ≡ 3) → block_at (disk_of s'.shadow).image i ≡ block_at m'.image i
        now_alike i lt is (inl e) = to_s i lt is (state_is i lt is ∙ e) ∙ sym (m_same i lt (zero_three _ (state_is i lt is ∙ e)))
        now_alike i lt is (inr e) = s_same i lt (three_zero _ (state_is i lt is ∙ e)) ∙ sym (to_m i lt is (state_is i lt is ∙ e))

        alike : IsAlike s m.image → IsAlike s' m'.image
        alike a = record {
          same = λ i lt' is_one.
              let lt : i < s.blocks = omega (arith, lt', blocks_is) in
              elim (cases_eq (i / 64) chunk) [
                | inl is ↦ now_alike i lt is (may.copies (sym (here i is) ∙ is_one))
                | inr other ↦ s_out i other ∙ a.same i lt (sym (at i lt other) ∙ is_one) ∙ sym (m_out i other)
              ];
        }

        back : (c : ℕ) → c < chunks_of s → disk_state s' c ≡ 3 → disk_state s c ≡ 3
        back c lt e = elim (cases_eq c chunk) [
          | inl is ↦ absurd ((target_not target may.targets).1 (sym one.now ∙ ap (λ (k : ℕ). disk_state s' k) (sym is) ∙ e))
          | inr ne ↦ sym (one.others c lt ne) ∙ e
        ]

        split : (c : ℕ) → c < chunks_of s → disk_state s c ≡ 2 → disk_state s' c ≡ 2
        split c lt e = elim (cases_eq c chunk) [
          | inl is ↦ absurd (may.whole (known chunk may.there ∙ ap (λ (k : ℕ). disk_state s k) (sym is) ∙ e))
          | inr ne ↦ one.others c lt ne ∙ e
        ]

-- ---- the block with the state

module _ (s : ChunkSet) (a' : Areas) (M' : List ℕ) (chunk target : ℕ) (there : chunk < chunks_of s) (clean : IsClean s.memory (chunks_of s)) (first : s.areas.first ≡ 1) where
  abbrev after : ChunkSet
  after = record s { areas = a'; memory = M' }

  -- the states of an area in which the block was written
  sets_one : IsKnown s → HasStates s.memory (live s.areas) (live a') chunk target → SetsOne (disk_state s) (λ c. state_on (live a') c) (chunks_of s) chunk target
  sets_one kn h = record {
    now = h.now;
    others = λ c lt ne. elim (cases_eq (c / 2048) (chunk / 2048)) [
      | inl near ↦ h.near c ne near ∙ kn.step.each c lt
      | inr far ↦ h.far c far
    ];
  }

  still_clean : HasStates s.memory (live s.areas) (live a') chunk target → IsCleanOnDisk s → (c : ℕ) → chunks_of s ≤ c → state_on (live a') c ≡ 0
  still_clean h zeros c past = elim (cases_eq (c / 2048) (chunk / 2048)) [
    | inl near ↦ h.near c (λ e. omega (arith, e, past, there)) near ∙ clean.each c past
    | inr far ↦ h.far c far ∙ zeros.each c past
  ]

  area_outside : IsTold s.areas.disk → ChangesWithin (live_from s.areas + chunk / 2048) 1 s.areas.disk.image a'.disk.image → block_at a'.disk.image 0 ≡ block_at s.areas.disk.image 0
  area_outside told within = within.outside 0 (inl (low s.areas.live_b refl))
    where
      low : (b : Bool) → s.areas.live_b ≡ b → 0 < live_from s.areas + chunk / 2048
      low true is = subst (λ (t : Bool). 0 < cond t (s.areas.first + s.areas.len) s.areas.first + chunk / 2048) (sym is) (omega (arith, first))
      low false is = subst (λ (t : Bool). 0 < cond t (s.areas.first + s.areas.len) s.areas.first + chunk / 2048) (sym is) (omega (arith, first))

  keeps_bitmap : {V H : Type 0} (q : Result V H) → PutsState s.areas s.memory chunk target q a' M' → IsTold s.areas.disk → KeepsBitmap s after
  keeps_bitmap q p told = record {
    label = area_outside told (p.within told);
    staged = p.staged told;
    clean = λ zeros. record {
      each = λ c past. elim (either q (p.done told) (p.failed told)) [
        | inl same ↦ ap (λ (img : Image). state_on img c) same ∙ zeros.each c past
        | inr has ↦ still_clean has zeros c past
      ];
    };
  }

-- ---- the exits

rose : (w w' k : ℕ) → w' ≡ raised w k → w' ≤ w + k
rose w w' k is = subst (λ (v : ℕ). v ≤ w + k) (sym is) (raised_most w k)

module _ (s : ChunkSet) (m m' : Seen) (X : Option Seen) (still : is_some X ≡ is_some s.shadow) (chunk target : ℕ) (may : MaySettle s chunk target) (clean : IsClean s.memory (chunks_of s)) (first : s.areas.first ≡ 1)
    {T E : Type 0} (r : Result T E) (cp : Copied (state_of s chunk) m (disk_of s.shadow) (64 * chunk) (seg_len chunk s.blocks) r m' (disk_of X)) where
  behind : (s' : ChunkSet) → s'.shadow ≡ X → IsTold (disk_of s.shadow) → KeepsBehind s s'
  behind s' is told = record {
    behind = λ i past.
        ap (λ (x : Option Seen). block_at (disk_of x).image i) is
        ∙ (cp.shadow_within told).outside i (inr (omega (arith, past, may.there)));
  }

  more : (len : ℕ) → (d : ChunkDisk) → copy_work (state_of s chunk) len d ≤ settle_work (state_of s chunk) len d
  more len = each_disk (λ d. copy_work (state_of s chunk) len d ≤ settle_work (state_of s chunk) len d) (omega arith) (omega arith) (omega arith)

  pub fails_copy : {U G : Type 0} (e : E) (e' : G) → r ≡ Err e → Settles {T = U} s m chunk target (Err e') (record s { shadow = X }) m'
  fails_copy {U} {G} e e' is =
      let cq = subst (λ (q : Result T E). Copied (state_of s chunk) m (disk_of s.shadow) (64 * chunk) (seg_len chunk s.blocks) q m' (disk_of X)) is cp in
      record {
        keeps = record {
          shape = record { kind = refl; blocks = refl; there = still; first = refl; len = refl; live_b = refl; next = refl };
          goes = all_err (disk_at s m) (disk_at (record s { shadow = X }) m') e e' (both_go m (disk_of s.shadow) s.areas.disk m' (disk_of X) (Err e) cq.go);
          bitmap = λ told. record { label = refl; staged = refl; clean = λ zeros. record { each = zeros.each } };
          behind = behind (record s { shadow = X }) refl;
          blocks = λ kn td. same_states s (record s { shadow = X }) m m' chunk target refl kn.step.each may r cp td kn.shadow (record { each = λ c _. refl });
        };
        done = λ kn. tt;
        stopped = λ kn. inl (record { each = λ c _. refl });
        known = λ kn. tt;
        memory = tt;
        unset = refl;
        adds = record { done = tt; most = λ d. omega (arith, (cq.adds s.areas.disk).most d, more (seg_len chunk s.blocks) d) };
      }

  module _ (a' : Areas) (M' : List ℕ) (x : T) (copied : r ≡ Ok x) {V H : Type 0} (q : Result V H) (p : PutsState s.areas s.memory chunk target q a' M') where
    abbrev pub settled : ChunkSet
    settled = record s { shadow = X; areas = a'; memory = M' }

    cq : Copied {E = E} (state_of s chunk) m (disk_of s.shadow) (64 * chunk) (seg_len chunk s.blocks) (Ok x) m' (disk_of X)
    cq = subst (λ (z : Result T E). Copied (state_of s chunk) m (disk_of s.shadow) (64 * chunk) (seg_len chunk s.blocks) z m' (disk_of X)) copied cp

    goes : AllGoOn (disk_at s m) q (disk_at settled m')
    goes = all_then (disk_at s m) (three m' (disk_of X) s.areas.disk) (disk_at settled m') x q (both_go m (disk_of s.shadow) s.areas.disk m' (disk_of X) (Ok x) cq.go) (bitmap_goes m' (disk_of X) s.areas.disk a'.disk q p.goes)

    keeps : KeepsSet s m q settled m'
    keeps = record {
      shape = record { kind = refl; blocks = refl; there = still; first = ap (λ (a : Areas). a.first) p.place; len = ap (λ (a : Areas). a.len) p.place; live_b = ap (λ (a : Areas). a.live_b) p.place; next = refl };
      goes = goes;
      bitmap = λ told. let kept = keeps_bitmap s a' M' chunk target may.there clean first q p told in record { label = kept.label; staged = kept.staged; clean = λ zeros. record { each = (kept.clean zeros).each } };
      behind = behind settled refl;
      blocks = λ kn td. elim (either q (p.done kn.bitmap) (p.failed kn.bitmap)) [
        | inl same ↦ same_states s settled m m' chunk target refl kn.step.each may r cp td kn.shadow (record { each = λ c _. ap (λ (img : Image). state_on img c) same })
        | inr has ↦ one_state s settled m m' chunk target refl kn.step.each may r cp td kn.shadow (sets_one s a' M' chunk target may.there clean first kn has) x copied
      ];
    }

    step : IsKnown s → SetsOne (disk_state s) (λ c. state_on (live a') c) (chunks_of s) chunk target → SetsState s.memory M' chunk target → (c : ℕ) → c < chunks_of s → state_in M' c ≡ state_on (live a') c
    step kn one set c lt = elim (cases_eq c chunk) [
      | inl is ↦ ap (λ (k : ℕ). state_in M' k) is ∙ set.now ∙ sym one.now ∙ ap (λ (k : ℕ). state_on (live a') k) (sym is)
      | inr ne ↦ set.others c ne ∙ kn.step.each c lt ∙ sym (one.others c lt ne)
    ]

    pub settles : Settles s m chunk target q settled m'
    settles = record {
      keeps = keeps;
      done = λ kn. on_ok_weaker q (sets_one s a' M' chunk target may.there clean first kn) (p.done kn.bitmap);
      stopped = λ kn. on_err_weaker q (λ f. elim f [ inl same ↦ inl (record { each = λ c _. ap (λ (img : Image). state_on img c) same }) | inr has ↦ inr (sets_one s a' M' chunk target may.there clean first kn has) ]) (p.failed kn.bitmap);
      known = λ kn. known q (p.done kn.bitmap) p.set kn;
      memory = on_ok_weaker q (λ set. record { now = set.now; others = set.others }) p.set;
      unset = p.unset;
      adds = adds q p.counted p.uncounted;
    }
      where
        known : (z : Result V H) → OnOk z (HasStates s.memory (live s.areas) (live a') chunk target) → OnOk z (SetsState s.memory M' chunk target) → IsKnown s → OnOk z (IsKnown settled)
        known (Ok y) has set kn = record {
          shadow = cq.go.second.told kn.shadow;
          bitmap = p.goes.lasts.told kn.bitmap;
          step = record { each = step kn (sets_one s a' M' chunk target may.there clean first kn has) set };
        }
        known (Err e) has set kn = tt

        adds : (z : Result V H) → OnOk z (a'.disk.written ≡ counted s.areas.disk.written 1) → OnErr z (a'.disk.written ≡ s.areas.disk.written) → Adds (disk_at s m) (settle_work (state_of s chunk) (seg_len chunk s.blocks)) z (disk_at settled m')
        adds (Ok y) one none = record {
          done = each_disk (λ d. (disk_at settled m' d).written ≡ raised (disk_at s m d).written (settle_work (state_of s chunk) (seg_len chunk s.blocks) d)) ((cq.adds s.areas.disk).done Master) ((cq.adds s.areas.disk).done Shadow) one;
          most = tt;
        }
        adds (Err e) one none = record {
          done = tt;
          most = each_disk (λ d. (disk_at settled m' d).written ≤ (disk_at s m d).written + settle_work (state_of s chunk) (seg_len chunk s.blocks) d)
              (rose m.written m'.written _ ((cq.adds s.areas.disk).done Master))
              (rose (disk_of s.shadow).written (disk_of X).written _ ((cq.adds s.areas.disk).done Shadow))
              (omega (arith, none));
        }

-- ---- when a chunk can be settled

two_one : (n : ℕ) → n ≡ 2 → n ≡ 1 → ⊥
two_one n a b = omega (arith, a, b)

pub may_split : (s : ChunkSet) (chunk : ℕ) → chunk < chunks_of s → state_of s chunk ≢ 2 → MaySettle s chunk 2
may_split s chunk there whole = record {
  there = there;
  targets = inl refl;
  whole = whole;
  copies = λ one. absurd (two_one 2 refl one);
  left = λ one. absurd (two_one 2 refl one);
}
