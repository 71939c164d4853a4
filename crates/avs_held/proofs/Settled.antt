-- A chunk of a set in chunks is settled.
use Rattle.std.proofs.Common.{◌≡◌, ◌≢◌, ◌⊎◌, inl, inr, ℕ, ◌<◌, Bool, true, false, not, Option, None, Some, List, Result, Ok, Err, OnOk, OnErr, ◌∙◌, sym, refl, ap, subst, arith}
use Rattle.std.proofs.lemmas.Bool.{cases_lt, cases_eq}
use Rattle.std.proofs.lemmas.Result.{on_ok_weaker, on_err_weaker}
use Rattle.avs_seg.specs.Image.{Image, block_at}
use Rattle.avs_dev.specs.Seen.{Seen, IsTold}
use Rattle.avs_dev.proofs.Going.{shown_told}
use Rattle.avs_model.specs.ShadowSets as model
use Rattle.avs_model.specs.declared.shadow.Kind.{Kind}
use Rattle.avs_model.specs.declared.shadow.Kind.TheVariants.{Ind, Dep, Compact}
use Rattle.avs_chunks.specs.States as states
use Rattle.avs_chunks.specs.States.{state_in, state_on}
use Rattle.avs_chunks.specs.ChunkSet as chunked
use Rattle.avs_chunks.specs.ChunkSet.{ChunkSet, disk_of, disk_state}
use Rattle.avs_chunks.specs.Disks.{Bitmap, settle_work}
use Rattle.avs_chunks.specs.Calls as calls
use Rattle.avs_chunks.specs.Copying as copying
use Rattle.avs_chunks.specs.Due as due
use Rattle.avs_chunks.specs.Writing as writing
use Rattle.avs_chunks.proofs.Quarters.{state_in_small}
use Rattle.avs_over.specs.Over.{OverSet}
use Rattle.avs_seg.specs.Segment.{seg_len}
use Rattle.avs_sets.specs.Says.{BlockSays}
use Rattle.avs_sets.specs.Sets.{chunks_of, KeepsShadow}
use Rattle.avs_sets.specs.Meaning.{chunks_by}
use Rattle.avs_sets.specs.Whole.{IsSettled}
use Rattle.avs_sets.specs.Steps.{IsKnown, SetsOne, Settles, Splits, SavesRange}
use Rattle.avs_held.specs.declared.held.Seat.{Seat}
use Rattle.avs_held.specs.Held.{area_of, own_map, chunk_set}
use Rattle.avs_held.specs.Rooms.{Mine, on_disks}
use Rattle.avs_held.specs.Calls.{MaySettle, CanSave, KeepsBitmap, KeepsHeld, SettlesSet, SavesChunks, CopiesDue, CopiesOne}
use Rattle.avs_held.proofs.Projected.{all_adds, staged_is, plain_master, plain_shadow}
use Rattle.avs_held.proofs.Keeping.{IsSameHeld, known_set, states_now, states_was, on_reads, same_states, keeps, owned_kept}

-- ---- what a call asks

not_independent : (kind : Kind) → kind ≢ Ind → model.is_independent kind ≢ true
not_independent Ind ne = absurd (ne refl)
not_independent Dep ne = λ e. cc
not_independent Compact ne = λ e. cc

independent : (kind : Kind) → model.is_independent kind ≡ true → kind ≡ Ind
independent Ind is = refl
independent Dep is = elim (never is) [ ]
  where
    never : false ≡ true → ⊥
    never is = cc
independent Compact is = elim (never is) [ ]
  where
    never : false ≡ true → ⊥
    never is = cc

pub may_chunk : (seat : Seat) (s : ChunkSet) (chunk target : ℕ) → MaySettle (chunk_set seat s) chunk target → calls.MaySettle s chunk target
may_chunk seat s chunk target may = record {
  there = may.there;
  targets = may.targets;
  whole = may.whole;
  copies = may.copies;
  left = λ is ne. may.left is (not_independent s.kind ne);
}

pub can_chunk : (seat : Seat) (s : ChunkSet) → CanSave (chunk_set seat s) → chunked.CanSave s
can_chunk seat s (inl there) = inl there
can_chunk seat s (inr settled) = inr (record {
  kind = independent s.kind settled.kind;
  settled = λ c lt. one_or_two (state_in s.memory c) (state_in_small s.memory c) (settled.each c lt);
})
  where
    one_or_two : (n : ℕ) → n < 4 → (n ≢ 0) × (n ≢ 3) → (n ≡ 1) ⊎ (n ≡ 2)
    one_or_two n low neither = elim (cases_eq n 1) [
      | inl is ↦ inl is
      | inr ne ↦ inr (omega (arith, low, ne, neither.0, neither.1))
    ]

-- ---- a settled set stays settled

-- where each state is as before, or split, or the same on both
settled_now : (seat : Seat) (s s' : ChunkSet) → calls.IsSameShape s s'
    → ((c : ℕ) → c < chunked.chunks_of s → (chunked.state_of s' c ≡ chunked.state_of s c) ⊎ ((chunked.state_of s' c ≡ 2) ⊎ (chunked.state_of s' c ≡ 1)))
    → IsSettled (chunk_set seat s) → IsSettled (chunk_set seat s')
settled_now seat s s' shape each was = record {
  kind = ap (λ (k : Kind). model.is_independent k) shape.kind ∙ was.kind;
  each = λ c lt. let there : c < chunked.chunks_of s = omega (arith, lt, shape.blocks) in (differs c 0 (omega arith) (omega arith) (each c there) (was.each c there).0, differs c 3 (omega arith) (omega arith) (each c there) (was.each c there).1);
}
  where
    differs : (c n : ℕ) → n ≢ 2 → n ≢ 1 → (chunked.state_of s' c ≡ chunked.state_of s c) ⊎ ((chunked.state_of s' c ≡ 2) ⊎ (chunked.state_of s' c ≡ 1))
        → chunked.state_of s c ≢ n → chunked.state_of s' c ≢ n
    differs c n two one (inl same) ne e = ne (sym same ∙ e)
    differs c n two one (inr (inl is)) ne e = two (sym e ∙ is)
    differs c n two one (inr (inr is)) ne e = one (sym e ∙ is)

-- by the memory a chunk is in the state that it is settled in, or as before
settled_state : {T E : Type 0} (s s' : ChunkSet) (chunk target : ℕ) (r : Result T E) → (target ≡ 2) ⊎ (target ≡ 1) → OnOk r (calls.Remembers s s' chunk target) → OnErr r (s'.memory ≡ s.memory)
    → (c : ℕ) → (chunked.state_of s' c ≡ chunked.state_of s c) ⊎ ((chunked.state_of s' c ≡ 2) ⊎ (chunked.state_of s' c ≡ 1))
settled_state s s' chunk target (Ok x) to rem none c = elim (cases_eq c chunk) [
  | inl is ↦ inr (elim to [
    | inl two ↦ inl (ap (λ (k : ℕ). chunked.state_of s' k) is ∙ rem.now ∙ two)
    | inr one ↦ inr (ap (λ (k : ℕ). chunked.state_of s' k) is ∙ rem.now ∙ one)
  ])
  | inr ne ↦ inl (rem.others c ne)
]
settled_state s s' chunk target (Err e) to none same c = inl (ap (λ (l : List ℕ). state_in l c) same)

-- and so where chunks are saved, or some of them
saved_state : {T E : Type 0} (s s' : ChunkSet) (first end : ℕ) (r : Result T E) → OnOk r (states.Splits (chunked.state_of s) (chunked.state_of s') (chunked.chunks_of s) first end)
    → OnErr r (states.SplitsFirst (chunked.state_of s) (chunked.state_of s') (chunked.chunks_of s) first end)
    → (c : ℕ) → c < chunked.chunks_of s → (chunked.state_of s' c ≡ chunked.state_of s c) ⊎ ((chunked.state_of s' c ≡ 2) ⊎ (chunked.state_of s' c ≡ 1))
saved_state s s' first end r = go r
  where
    by : (last : ℕ) → states.Splits (chunked.state_of s) (chunked.state_of s') (chunked.chunks_of s) first last
        → (c : ℕ) → c < chunked.chunks_of s → (chunked.state_of s' c ≡ chunked.state_of s c) ⊎ ((chunked.state_of s' c ≡ 2) ⊎ (chunked.state_of s' c ≡ 1))
    by last x c lt = elim (cases_lt c first) [
      | inl low ↦ inl (x.outside c lt (inl low))
      | inr from ↦ elim (cases_lt c last) [
        | inl within ↦ inr (inl (x.inside c lt from within))
        | inr past ↦ inl (x.outside c lt (inr past))
      ]
    ]

    go : {T E : Type 0} (r : Result T E) → OnOk r (states.Splits (chunked.state_of s) (chunked.state_of s') (chunked.chunks_of s) first end)
        → OnErr r (states.SplitsFirst (chunked.state_of s) (chunked.state_of s') (chunked.chunks_of s) first end)
        → (c : ℕ) → c < chunked.chunks_of s → (chunked.state_of s' c ≡ chunked.state_of s c) ⊎ ((chunked.state_of s' c ≡ 2) ⊎ (chunked.state_of s' c ≡ 1))
    go (Ok x) all none = by end all
    go (Err e) none some = by some.upto some.splits

-- ---- of the bitmap

pub bitmap_kept : (seat : Seat) (s s' : ChunkSet) → s'.areas.live_b ≡ s.areas.live_b → IsTold s.areas.disk → IsTold s'.areas.disk → calls.KeepsBitmap s s' → KeepsBitmap (chunk_set seat s) (chunk_set seat s')
bitmap_kept seat s s' live_b told told' k = record {
  label = ap (λ (img : Image). block_at img 0) (shown_told s'.areas.disk told') ∙ k.label ∙ sym (ap (λ (img : Image). block_at img 0) (shown_told s.areas.disk told));
  staged = ap (λ (b : Bool). own_map (λ c. state_on (area_of s'.areas (not b)) c)) (sym live_b)
      ∙ ap (λ (img : Image). own_map (λ c. state_on img c)) (staged_is s'.areas told' ∙ k.staged ∙ sym (staged_is s.areas told));
}

pub held_kept : {T E : Type 0} (seat : Seat) (s s' : ChunkSet) (m m' : Seen) (o : OverSet) (r : Result T E) → (IsSettled (chunk_set seat s) → IsSettled (chunk_set seat s')) → calls.KeepsSet s m r s' m'
    → KeepsHeld (on_disks (chunk_set seat s) m o) (on_disks (chunk_set seat s') m' o)
held_kept seat s s' m m' o r settled k = record {
  bitmap = λ told. bitmap_kept seat s s' k.shape.live_b told ((k.goes.lasts Bitmap).told told) (k.bitmap told);
  next = ap (λ (l : List ℕ). own_map (λ c. state_in l c)) k.shape.next;
  there = k.shape.there;
  settled = settled;
  owned = owned_kept seat s s' m m' o;
  over = λ is. refl;
}

-- ---- the step

pub same_held : (s s' : ChunkSet) → calls.IsSameShape s s' → IsSameHeld s s'
same_held s s' shape = record { kind = shape.kind; blocks = shape.blocks; live_b = shape.live_b }

module _ (seat : Seat) (s s' : ChunkSet) (m m' : Seen) (chunk target : ℕ) {T E : Type 0} (r : Result T E) (a : calls.Settles s m chunk target r s' m') where
  module _ (says : BlockSays) (over : Seen) where
    one_now : (kn : IsKnown says (chunk_set seat s) m over) → states.SetsOne (disk_state s) (disk_state s') (chunked.chunks_of s) chunk target
        → SetsOne (chunks_by says (chunk_set seat s)).state (chunks_by says (chunk_set seat s')).state (chunks_of (chunk_set seat s)) chunk target
    one_now kn one = record {
      now = ap (λ (f : ℕ → ℕ). f chunk) (states_now says seat s s' m m' over r (same_held s s' a.keeps.shape) a.keeps.goes a.keeps.behind kn) ∙ one.now;
      others = λ c lt ne. ap (λ (f : ℕ → ℕ). f c) (states_now says seat s s' m m' over r (same_held s s' a.keeps.shape) a.keeps.goes a.keeps.behind kn) ∙ one.others c lt ne
          ∙ sym (ap (λ (f : ℕ → ℕ). f c) (states_was says seat s s' m m' over r (same_held s s' a.keeps.shape) a.keeps.goes a.keeps.behind kn));
    }

    step : (mine : ℕ → Type 0) → Settles says mine (chunk_set seat s) m over chunk target r (chunk_set seat s') m' over
    step mine = record {
      keeps = keeps says seat s s' m m' over r (same_held s s' a.keeps.shape) a.keeps.goes a.keeps.behind mine a.known (λ k told. plain_master s s' m.image m'.image (a.keeps.blocks k told));
      shadow = λ kn. on_reads says seat s s' m m' over r (same_held s s' a.keeps.shape) a.keeps.goes a.keeps.behind kn KeepsShadow
          (plain_shadow s s' m.image m'.image (a.keeps.blocks (known_set says seat s m over kn) kn.master));
      done = λ kn. on_ok_weaker r (λ one. one_now kn one) (a.done (known_set says seat s m over kn));
      stopped = λ kn. on_err_weaker r (λ which. elim which [
        | inl same ↦ inl (same_states says seat s s' m m' over r (same_held s s' a.keeps.shape) a.keeps.goes a.keeps.behind kn same.each)
        | inr one ↦ inr (one_now kn one)
      ]) (a.stopped (known_set says seat s m over kn));
    }

  pub settles_set : (target ≡ 2) ⊎ (target ≡ 1) → (o : OverSet) → SettlesSet (on_disks (chunk_set seat s) m o) chunk target r (on_disks (chunk_set seat s') m' o)
  settles_set to o = record {
    step = λ owned says. step says o.disk (Mine (chunk_set seat s) o);
    keeps = held_kept seat s s' m m' o r (settled_now seat s s' a.keeps.shape (λ c lt. settled_state s s' chunk target r to a.memory a.unset c)) a.keeps;
    memory = on_ok_weaker r (λ x. record { now = x.now; others = x.others }) a.memory;
    adds = λ is. all_adds seat s s' m m' o.disk r (settle_work (chunked.state_of s chunk) (seg_len chunk s.blocks)) a.adds;
  }

-- ---- chunks that are saved

module _ (seat : Seat) (s s' : ChunkSet) (m m' : Seen) (first end : ℕ) {T E : Type 0} (r : Result T E) (a : writing.SavesRange s m first end r s' m') where
  module _ (says : BlockSays) (over : Seen) where
    splits_now : (kn : IsKnown says (chunk_set seat s) m over) → (last : ℕ) → states.Splits (disk_state s) (disk_state s') (chunked.chunks_of s) first last
        → Splits (chunks_by says (chunk_set seat s)).state (chunks_by says (chunk_set seat s')).state (chunks_of (chunk_set seat s)) first last
    splits_now kn last x = record {
      inside = λ c lt low high. ap (λ (f : ℕ → ℕ). f c) (states_now says seat s s' m m' over r (same_held s s' a.keeps.shape) a.keeps.goes a.keeps.behind kn) ∙ x.inside c lt low high;
      outside = λ c lt out. ap (λ (f : ℕ → ℕ). f c) (states_now says seat s s' m m' over r (same_held s s' a.keeps.shape) a.keeps.goes a.keeps.behind kn) ∙ x.outside c lt out
          ∙ sym (ap (λ (f : ℕ → ℕ). f c) (states_was says seat s s' m m' over r (same_held s s' a.keeps.shape) a.keeps.goes a.keeps.behind kn));
    }

    saves : (mine : ℕ → Type 0) → SavesRange says mine (chunk_set seat s) m over first end r (chunk_set seat s') m' over
    saves mine = record {
      keeps = keeps says seat s s' m m' over r (same_held s s' a.keeps.shape) a.keeps.goes a.keeps.behind mine a.known (λ k told. plain_master s s' m.image m'.image (a.keeps.blocks k told));
      shadow = λ kn. on_reads says seat s s' m m' over r (same_held s s' a.keeps.shape) a.keeps.goes a.keeps.behind kn KeepsShadow
          (plain_shadow s s' m.image m'.image (a.keeps.blocks (known_set says seat s m over kn) kn.master));
      done = λ kn. on_ok_weaker r (λ x. splits_now kn end x) (a.done (known_set says seat s m over kn));
      stopped = λ kn. on_err_weaker r (λ x. record { upto = x.upto; low = x.low; high = x.high; splits = splits_now kn x.upto x.splits }) (a.stopped (known_set says seat s m over kn));
    }

  pub saves_chunks : (o : OverSet) → SavesChunks (on_disks (chunk_set seat s) m o) first end r (on_disks (chunk_set seat s') m' o)
  saves_chunks o = record {
    step = λ owned says. saves says o.disk (Mine (chunk_set seat s) o);
    keeps = held_kept seat s s' m m' o r (settled_now seat s s' a.keeps.shape (saved_state s s' first end r a.memory a.some)) a.keeps;
    memory = on_ok_weaker r (λ x. record { inside = x.inside; outside = x.outside }) a.memory;
  }

-- ---- a copy step

same_independent : (kind : Kind) → due.is_independent kind ≡ model.is_independent kind
same_independent Ind = refl
same_independent Dep = refl
same_independent Compact = refl

copies_due : {E : Type 0} (seat : Seat) (s s' : ChunkSet) (m m' : Seen) (o : OverSet) (due : Option ℕ) (r : Result (Option ℕ) E) → copying.CopiesDue s m due r s' m'
    → CopiesDue (on_disks (chunk_set seat s) m o) due r (on_disks (chunk_set seat s') m' o)
copies_due seat s s' m m' o None r (nothing, is) = (record { ok = nothing.ok; same = λ p. on_disks (chunk_set seat (nothing.set p)) (nothing.master p) o }, is)
copies_due seat s s' m m' o (Some chunk) r (st, is) = (settles_set seat s s' m m' chunk 1 r st (inr refl) o, is)

pub copies_one : {E : Type 0} (seat : Seat) (s s' : ChunkSet) (m m' : Seen) (o : OverSet) (r : Result (Option ℕ) E) → copying.CopiesOne s m r s' m'
    → CopiesOne (on_disks (chunk_set seat s) m o) r (on_disks (chunk_set seat s') m' o)
copies_one seat s s' m m' o r a = record {
  due = a.due;
  finds = subst (λ (b : Bool). copying.FindsDue (chunked.state_of s) b (chunked.chunks_of s) a.due) (same_independent s.kind) a.finds;
  copies = copies_due seat s s' m m' o a.due r a.copies;
}
