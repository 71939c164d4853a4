-- Runs of equal blocks, as they are held.
use Rattle.std.proofs.Common.{◌≡◌, inl, inr, ℕ, zero, suc, ◌+◌, ◌-◌, ◌*◌, ◌/◌, ◌%◌, ◌<◌, ◌≤◌, List, [], ◌∷◌, ◌++◌, length, get_or, take, drop, replicate, map, ◌∙◌, sym, refl, ap, subst, arith}
use Rattle.std.specs.Str.{bytes_eq}
use Rattle.std.proofs.lemmas.Bool.{cases_lt, cases_Bool, cond-true, cond-false, false_from_ne_true}
use Rattle.std.proofs.lemmas.Slice.Eq.{bytes_eq-Decides}
use Rattle.std.proofs.lemmas.List.{append-nil, append_assoc, length-append, length-drop, length-map, length-replicate, length-take-le, map-append, get_or-map, get_or-replicate, get_or_append_left, get_or-append_right, replicate-append-replicate, take-append-le, take-append-drop, take_all, take_at, drop_at, drop-append-le, drop-drop, nil_from_length}
use Rattle.std.proofs.lemmas.List.Concat.{flat_map-append}
use Rattle.std.proofs.Math.Seq.{drop-append_seam}
use Rattle.avs_seg.specs.Image.{Block, Image, block_at, blocks_of}
use Rattle.avs_seg.proofs.Blocks.{same_images}
use Rattle.avs_seg.proofs.Bytes.{length-blocks_of, block_at-blocks_of}
use Rattle.avs_model.specs.Filling.{pattern_lengths, fill, first_filling, shortest_pattern}
use Rattle.avs_model.specs.EqualBlocks.{EqualRun, onto_run, runs_of, run_at}
use Rattle.avs_model.specs.HeldRuns.{pattern_of, blocks_of_runs, RunForm, form_of, forms_held, closed_run, AreWithin, AreRuns, blocks_held, HoldsRuns}
use Rattle.avs_model.specs.declared.equal_runs.Run.{Run}
use Rattle.avs_model.proofs.FillLemmas.{fill_is}

-- ---- runs of an image

-- these runs are not none, and the first is of that block
record BeginsWith (block : Block) (runs : List EqualRun) : Type 0 where
  first : EqualRun
  others : List EqualRun
  is : runs ≡ first ∷ others
  same : first.block ≡ block

BeginsWith-onto_run : (block : Block) (runs : List EqualRun) → BeginsWith block (onto_run block runs)
BeginsWith-onto_run block [] = record { first = record { count = 1; block = block }; others = []; is = refl; same = refl }
BeginsWith-onto_run block (run ∷ runs) = elim (cases_Bool (bytes_eq block run.block)) [
  | inl equal ↦ record { first = record { count = run.count + 1; block = run.block }; others = runs; is = cond-true (bytes_eq block run.block) _ _ equal; same = sym ((bytes_eq-Decides block run.block).0 equal) }
  | inr apart ↦ record { first = record { count = 1; block = block }; others = run ∷ runs; is = cond-false (bytes_eq block run.block) _ _ apart; same = refl }
]

-- equal blocks in front of another block are one run
runs_of-replicate : (n : ℕ) (block : Block) (rest : Image) → (0 < length rest → block_at rest 0 ≡ block → ⊥) → runs_of (replicate (suc n) block ++ rest) ≡ record { count = n + 1; block = block } ∷ runs_of rest
runs_of-replicate zero block [] apart = refl
runs_of-replicate zero block (next ∷ rest) apart =
    let begins = BeginsWith-onto_run next (runs_of rest) in
    ap (λ (runs : List EqualRun). onto_run block runs) begins.is
    ∙ cond-false (bytes_eq block begins.first.block) _ _ (false_from_ne_true _ (λ equal. apart (omega arith) (sym begins.same ∙ sym ((bytes_eq-Decides block begins.first.block).0 equal))))
    ∙ ap (λ (runs : List EqualRun). record { count = 1; block = block } ∷ runs) (sym begins.is)
runs_of-replicate (suc n) block rest apart =
    ap (λ (runs : List EqualRun). onto_run block runs) (runs_of-replicate n block rest apart)
    ∙ cond-true (bytes_eq block block) _ _ ((bytes_eq-Decides block block).1 refl)
    ∙ ap (λ (k : ℕ). record { count = k; block = block } ∷ runs_of rest) (omega arith)

-- ---- blocks, one after another

-- the first n blocks are equal
pub record EqualFirst (bytes : List ℕ) (n : ℕ) : Type 0 where
  pub same : (k : ℕ) → k < n → take 512 (drop (512 * k) bytes) ≡ take 512 bytes

pub EqualFirst-one : (bytes : List ℕ) → EqualFirst bytes 1
EqualFirst-one bytes = record { same = λ k lt. let none : k ≡ 0 = omega arith in ap (λ (j : ℕ). take 512 (drop (512 * j) bytes)) none }

pub EqualFirst-more : (bytes : List ℕ) (n : ℕ) → EqualFirst bytes n → take 512 (drop (512 * n) bytes) ≡ take 512 bytes → EqualFirst bytes (n + 1)
EqualFirst-more bytes n equal next = record {
  same = λ k lt. elim (cases_lt k n) [
    | inl less ↦ equal.same k less
    | inr le ↦ let is : k ≡ n = omega arith in ap (λ (j : ℕ). take 512 (drop (512 * j) bytes)) is ∙ next
  ];
}

pub blocks_of-equal : (bytes : List ℕ) (n : ℕ) → 512 * n ≤ length bytes → EqualFirst bytes n → blocks_of bytes ≡ replicate n (take 512 bytes) ++ blocks_of (drop (512 * n) bytes)
blocks_of-equal bytes n fits equal = same_images (blocks_of bytes) (front ++ blocks_of rest) (length-blocks_of bytes ∙ size) (λ i lt. each i (omega (arith, lt, length-blocks_of bytes)))
  where
    front : Image
    front = replicate n (take 512 bytes)

    rest : List ℕ
    rest = drop (512 * n) bytes

    len : length front ≡ n
    len = length-replicate n (take 512 bytes)

    count : length (blocks_of rest) ≡ (length bytes - 512 * n) / 512
    count = length-blocks_of rest ∙ ap (λ (k : ℕ). k / 512) (length-drop (512 * n) bytes)

    size : length bytes / 512 ≡ length (front ++ blocks_of rest)
    size = omega (arith, length-append front (blocks_of rest), len, count)

    place : (i : ℕ) → n ≤ i → 512 * n + 512 * (i - n) ≡ 512 * i
    place i le = omega arith

    each : (i : ℕ) → i < length bytes / 512 → block_at (blocks_of bytes) i ≡ block_at (front ++ blocks_of rest) i
    each i lt = block_at-blocks_of bytes i lt ∙ elim (cases_lt i n) [
      | inl low ↦ equal.same i low ∙ sym (get_or-replicate n i (take 512 bytes) [] low) ∙ sym (get_or_append_left front (blocks_of rest) [] i (omega (arith, len)))
      | inr high ↦
          ap (λ (k : ℕ). take 512 (drop k bytes)) (sym (place i high))
          ∙ ap (λ (l : List ℕ). take 512 l) (sym (drop-drop (512 * (i - n)) (512 * n) bytes))
          ∙ sym (block_at-blocks_of rest (i - n) (omega (arith, length-drop (512 * n) bytes)))
          ∙ sym (get_or-append_right front (blocks_of rest) n i [] len high)
    ]

-- n equal blocks more of those that are appended
pub pushed_more : (held new all : Image) (bytes rest : List ℕ) (n : ℕ) (block : Block) → rest ≡ drop (512 * n) bytes → blocks_of bytes ≡ replicate n block ++ blocks_of (drop (512 * n) bytes)
    → held ++ blocks_of bytes ≡ all → new ≡ held ++ replicate n block → new ++ blocks_of rest ≡ all
pushed_more held new all bytes rest n block is equal sofar more =
    ap (λ (l : List ℕ). new ++ blocks_of l) is
    ∙ ap (λ (img : Image). img ++ blocks_of (drop (512 * n) bytes)) more
    ∙ append_assoc held (replicate n block) (blocks_of (drop (512 * n) bytes))
    ∙ ap (λ (img : Image). held ++ img) (sym equal)
    ∙ sofar

pub whole_rest : (bytes rest : List ℕ) (n : ℕ) → rest ≡ drop (512 * n) bytes → 512 * (length bytes / 512) ≡ length bytes → 512 * (length rest / 512) ≡ length rest
whole_rest bytes rest n is whole = omega (arith, whole, ap length is, length-drop (512 * n) bytes)

-- all are appended
pub pushed_all : (held all : Image) (bytes : List ℕ) → length bytes ≡ 0 → held ++ blocks_of bytes ≡ all → held ≡ all
pushed_all held all bytes none sofar =
    let count : length (blocks_of bytes) ≡ 0 = omega (arith, none, length-blocks_of bytes) in
    sym (append-nil held) ∙ ap (λ (img : Image). held ++ img) (sym (nil_from_length (blocks_of bytes) count)) ∙ sofar

-- there is room for n more
pub room_for : (held old : Image) (bytes rest : List ℕ) (n most : ℕ) → held ++ blocks_of rest ≡ old ++ blocks_of bytes → 512 * n ≤ length rest → length old + length bytes / 512 < most → length held + n < most
room_for held old bytes rest n most sofar some room =
    omega (arith, some, room, ap length sofar, length-append held (blocks_of rest), length-append old (blocks_of bytes), length-blocks_of rest, length-blocks_of bytes)

-- more of the last block
pub blocks_more : (front : Image) (count n : ℕ) (block : Block) → front ++ replicate (count + n) block ≡ (front ++ replicate count block) ++ replicate n block
blocks_more front count n block =
    ap (λ (img : Image). front ++ img) (sym (replicate-append-replicate count n block)) ∙ sym (append_assoc front (replicate count block) (replicate n block))

-- the last run is one of the blocks
pub count_within : (front : Image) (count : ℕ) (block : Block) (image : Image) → front ++ replicate count block ≡ image → count ≤ length image
count_within front count block image is = omega (arith, ap length is, length-append front (replicate count block), length-replicate count block)

-- ---- the shortest pattern

first_filling-fills : (lengths : List ℕ) (block : Block) → length block ≡ 512 → fill (first_filling lengths block) ≡ block
first_filling-fills [] block len = fill_is block block len (λ i lt.
    let same : i ≡ i % 512 = omega arith in
    ap (λ (k : ℕ). get_or block k 0) (same ∙ ap (λ (n : ℕ). i % n) (sym len)))
first_filling-fills (n ∷ lengths) block len = elim (cases_Bool (bytes_eq (fill (take n block)) block)) [
  | inl fills ↦
      ap fill (cond-true (bytes_eq (fill (take n block)) block) (take n block) (first_filling lengths block) fills)
      ∙ (bytes_eq-Decides (fill (take n block)) block).0 fills
  | inr other ↦
      ap fill (cond-false (bytes_eq (fill (take n block)) block) (take n block) (first_filling lengths block) other)
      ∙ first_filling-fills lengths block len
]

pub shortest-fills : (block : Block) → length block ≡ 512 → fill (shortest_pattern block) ≡ block
shortest-fills block len = first_filling-fills pattern_lengths block len

-- ---- patterns behind others

within_more : (n k : ℕ) (runs : List Run) → n ≤ k → AreWithin n runs → AreWithin k runs
within_more n k [] le are = tt
within_more n k (run ∷ runs) le are = (omega (arith, le, are.0), within_more n k runs le are.1)

pub within_at : (n : ℕ) (runs : List Run) (i : ℕ) (d : Run) → i < length runs → AreWithin n runs → (get_or runs i d).start + (get_or runs i d).len ≤ n
within_at n [] i d lt are = absurd (omega arith)
within_at n (run ∷ runs) zero d lt are = are.0
within_at n (run ∷ runs) (suc i) d lt are = within_at n runs i d (omega arith) are.1

within_append : (n : ℕ) (runs : List Run) (run : Run) → AreWithin n runs → run.start + run.len ≤ n → AreWithin n (runs ++ run ∷ [])
within_append n [] run are le = (le, tt)
within_append n (first ∷ runs) run are le = (are.0, within_append n runs run are.1 le)

pattern_same : (patterns more : List ℕ) (run : Run) → run.start + run.len ≤ length patterns → pattern_of (patterns ++ more) run ≡ pattern_of patterns run
pattern_same patterns more run le =
    let start : run.start ≤ length patterns = omega (arith, le) in
    let len : run.len ≤ length (drop run.start patterns) = omega (arith, le, length-drop run.start patterns) in
    ap (λ (l : List ℕ). take run.len l) (drop-append-le run.start patterns more start)
    ∙ take-append-le run.len (drop run.start patterns) more len

blocks_same : (patterns more : List ℕ) (runs : List Run) → AreWithin (length patterns) runs → blocks_of_runs (patterns ++ more) runs ≡ blocks_of_runs patterns runs
blocks_same patterns more [] are = refl
blocks_same patterns more (run ∷ runs) are =
    ap (λ (l : List ℕ). replicate run.count (fill l) ++ blocks_of_runs (patterns ++ more) runs) (pattern_same patterns more run are.0)
    ∙ ap (λ (img : Image). replicate run.count (fill (pattern_of patterns run)) ++ img) (blocks_same patterns more runs are.1)

forms_same : (patterns more : List ℕ) (runs : List Run) → AreWithin (length patterns) runs → forms_held (patterns ++ more) runs ≡ forms_held patterns runs
forms_same patterns more [] are = refl
forms_same patterns more (run ∷ runs) are =
    ap (λ (l : List ℕ). record { count = run.count; pattern = l } ∷ forms_held (patterns ++ more) runs) (pattern_same patterns more run are.0)
    ∙ ap (λ (forms : List RunForm). record { count = run.count; pattern = pattern_of patterns run } ∷ forms) (forms_same patterns more runs are.1)

-- ---- a run that ends, and another that begins

module _ (patterns : List ℕ) (runs : List Run) (count : ℕ) (pattern : List ℕ) (some : 0 < count) (are : AreRuns patterns runs count pattern) where
  abbrev block : Block
  block = fill pattern

  abbrev run : Run
  run = record { count = count; start = length patterns; len = length pattern }

  its_pattern : pattern_of (patterns ++ pattern) run ≡ pattern
  its_pattern = ap (λ (l : List ℕ). take (length pattern) l) (drop-append_seam patterns pattern) ∙ take_all (length pattern) pattern (omega arith)

  closed_blocks : blocks_of_runs (patterns ++ pattern) (runs ++ run ∷ []) ≡ blocks_of_runs patterns runs ++ replicate count block
  closed_blocks =
      flat_map-append (λ (r : Run). replicate r.count (fill (pattern_of (patterns ++ pattern) r))) runs (run ∷ [])
      ∙ ap (λ (img : Image). img ++ (replicate count (fill (pattern_of (patterns ++ pattern) run)) ++ [])) (blocks_same patterns pattern runs are.within)
      ∙ ap (λ (img : Image). blocks_of_runs patterns runs ++ img) (append-nil (replicate count (fill (pattern_of (patterns ++ pattern) run))))
      ∙ ap (λ (l : List ℕ). blocks_of_runs patterns runs ++ replicate count (fill l)) its_pattern

  abbrev form : RunForm
  form = record { count = count; pattern = pattern }

  closed_forms : forms_held (patterns ++ pattern) (runs ++ run ∷ []) ≡ forms_held patterns runs ++ form ∷ []
  closed_forms =
      map-append (λ (r : Run). record { count = r.count; pattern = pattern_of (patterns ++ pattern) r }) runs (run ∷ [])
      ∙ ap (λ (forms : List RunForm). forms ++ record { count = count; pattern = pattern_of (patterns ++ pattern) run } ∷ []) (forms_same patterns pattern runs are.within)
      ∙ ap (λ (l : List ℕ). forms_held patterns runs ++ record { count = count; pattern = l } ∷ []) its_pattern

  -- the runs of these blocks, and of what follows them
  whole_runs : (n : ℕ) → count ≡ suc n → (rest : Image) → (0 < length rest → block_at rest 0 ≡ block → ⊥)
      → map form_of (runs_of (blocks_of_runs patterns runs ++ (replicate count block ++ rest))) ≡ forms_held patterns runs ++ form ∷ map form_of (runs_of rest)
  whole_runs n is rest other =
      ap (λ (k : ℕ). map form_of (runs_of (blocks_of_runs patterns runs ++ (replicate k block ++ rest)))) is
      ∙ are.apart (replicate n block ++ rest)
      ∙ ap (λ (l : List EqualRun). forms_held patterns runs ++ map form_of l) (runs_of-replicate n block rest other)
      ∙ ap (λ (l : List ℕ). forms_held patterns runs ++ record { count = n + 1; pattern = l } ∷ map form_of (runs_of rest)) (are.shortest some)
      ∙ ap (λ (k : ℕ). forms_held patterns runs ++ record { count = k; pattern = pattern } ∷ map form_of (runs_of rest)) (omega (arith, is))

  following : (rest : Image) → (0 < length rest → block_at rest 0 ≡ block → ⊥)
      → map form_of (runs_of (blocks_of_runs patterns runs ++ (replicate count block ++ rest))) ≡ forms_held patterns runs ++ form ∷ map form_of (runs_of rest)
  following rest other = let is : count ≡ suc (count - 1) = omega (arith, some) in whole_runs (count - 1) is rest other

  pub closes : (n : ℕ) (next : List ℕ) → 0 < n → shortest_pattern (fill next) ≡ next → (next ≡ pattern → ⊥) → AreRuns (patterns ++ pattern) (runs ++ run ∷ []) n next
  closes n next more shortest other = record {
    within = within_append (length (patterns ++ pattern)) runs run (within_more (length patterns) (length (patterns ++ pattern)) runs (omega (arith, length-append patterns pattern)) are.within)
        (omega (arith, length-append patterns pattern));
    none = λ is. absurd (omega (arith, is, more));
    shortest = λ is. shortest;
    apart = λ rest.
        ap (λ (img : Image). map form_of (runs_of (img ++ fill next ∷ rest))) closed_blocks
        ∙ ap (λ (img : Image). map form_of (runs_of img)) (append_assoc (blocks_of_runs patterns runs) (replicate count block) (fill next ∷ rest))
        ∙ following (fill next ∷ rest) (λ is same. other (sym shortest ∙ ap (λ (b : Block). shortest_pattern b) same ∙ are.shortest some))
        ∙ sym (append_assoc (forms_held patterns runs) (form ∷ []) (map form_of (runs_of (fill next ∷ rest))))
        ∙ ap (λ (forms : List RunForm). forms ++ map form_of (runs_of (fill next ∷ rest))) (sym closed_forms);
  }

  -- ---- the runs by number

  abbrev image : Image
  image = blocks_of_runs patterns runs ++ replicate count block

  all_forms : map form_of (runs_of image) ≡ forms_held patterns runs ++ form ∷ []
  all_forms =
      ap (λ (img : Image). map form_of (runs_of (blocks_of_runs patterns runs ++ img))) (sym (append-nil (replicate count block)))
      ∙ following [] (λ more same. absurd (omega (arith, more)))

  held_length : length (forms_held patterns runs) ≡ length runs
  held_length = length-map runs (λ (r : Run). record { count = r.count; pattern = pattern_of patterns r })

  pub run_count : length (runs_of image) ≡ length runs + 1
  run_count =
      sym (length-map (runs_of image) form_of)
      ∙ ap (λ (l : List RunForm). length l) all_forms
      ∙ length-append (forms_held patterns runs) (form ∷ [])
      ∙ ap (λ (n : ℕ). n + 1) held_length

  abbrev no_form : RunForm
  no_form = record { count = 0; pattern = [] }

  by_number : (i : ℕ) → i < length runs + 1 → form_of (run_at image i) ≡ get_or (forms_held patterns runs ++ form ∷ []) i no_form
  by_number i lt =
      sym (get_or-map form_of (runs_of image) i (record { count = 0; block = [] }) no_form (omega (arith, lt, run_count)))
      ∙ ap (λ (forms : List RunForm). get_or forms i no_form) all_forms

  pub last_run : (i : ℕ) → i ≡ length runs → form_of (run_at image i) ≡ record { count = count; pattern = pattern }
  last_run i is =
      let none : i - length runs ≡ 0 = omega (arith, is) in
      by_number i (omega (arith, is))
      ∙ get_or-append_right (forms_held patterns runs) (form ∷ []) (length runs) i no_form held_length (omega (arith, is))
      ∙ ap (λ (n : ℕ). get_or (form ∷ []) n no_form) none

  pub earlier_run : (i : ℕ) (d : Run) → i < length runs → form_of (run_at image i) ≡ record { count = (get_or runs i d).count; pattern = pattern_of patterns (get_or runs i d) }
  earlier_run i d lt =
      by_number i (omega (arith, lt))
      ∙ get_or_append_left (forms_held patterns runs) (form ∷ []) no_form i (omega (arith, lt, held_length))
      ∙ get_or-map (λ (r : Run). record { count = r.count; pattern = pattern_of patterns r }) runs i d no_form lt

-- no blocks have no runs
pub no_runs : (patterns : List ℕ) (runs : List Run) (count : ℕ) (pattern : List ℕ) → count ≡ 0 → AreRuns patterns runs count pattern → blocks_of_runs patterns runs ++ replicate count (fill pattern) ≡ []
no_runs patterns runs count pattern none are =
    ap (λ (l : List Run). blocks_of_runs patterns l ++ replicate count (fill pattern)) (are.none none)
    ∙ ap (λ (n : ℕ). replicate n (fill pattern)) none

-- ---- runs whose last pattern ends the patterns

-- none: whatever the patterns are
pub none_held : (patterns : List ℕ) (runs : List Run) (start : ℕ) → start ≤ length patterns → runs ≡ [] → HoldsRuns patterns runs 0 start
none_held patterns runs start room none = record {
  room = room;
  are = subst (λ (l : List Run). AreRuns (take start patterns) l 0 (drop start patterns)) (sym none)
      (record { within = tt; none = λ is. refl; shortest = λ some. absurd (omega (arith, some)); apart = λ rest. refl });
}

-- the first run
pub first_held : (patterns : List ℕ) (runs : List Run) (n : ℕ) (block : Block) → length block ≡ 512 → 0 < n → runs ≡ [] → patterns ≡ shortest_pattern block → HoldsRuns patterns runs n 0
first_held patterns runs n block size some none is = record {
  room = omega arith;
  are = subst (λ (l : List Run). AreRuns [] l n patterns) (sym none) (record {
    within = tt;
    none = λ zero_is. absurd (omega (arith, some, zero_is));
    shortest = λ more. ap (λ (l : List ℕ). shortest_pattern (fill l)) is ∙ ap (λ (b : Block). shortest_pattern b) (shortest-fills block size) ∙ sym is;
    apart = λ rest. refl;
  });
}

pub first_blocks : (patterns : List ℕ) (runs : List Run) (n : ℕ) (block : Block) (image : Image) → length block ≡ 512 → runs ≡ [] → patterns ≡ shortest_pattern block → image ≡ [] → blocks_held patterns runs n 0 ≡ image ++ replicate n block
first_blocks patterns runs n block image size none is empty =
    ap (λ (l : List Run). blocks_of_runs [] l ++ replicate n (fill patterns)) none
    ∙ ap (λ (b : Block). replicate n b) (ap fill is ∙ shortest-fills block size)
    ∙ ap (λ (img : Image). img ++ replicate n block) (sym empty)

module _ (patterns : List ℕ) (runs : List Run) (count start : ℕ) (holds : HoldsRuns patterns runs count start) where
  abbrev front : List ℕ
  front = take start patterns

  abbrev last : List ℕ
  last = drop start patterns

  both : front ++ last ≡ patterns
  both = take-append-drop start patterns

  front_length : length front ≡ start
  front_length = length-take-le start patterns holds.room

  -- more blocks of the last run
  pub grows : (n : ℕ) → 0 < count → HoldsRuns patterns runs (count + n) start
  grows n some = record {
    room = holds.room;
    are = record {
      within = holds.are.within;
      none = λ is. absurd (omega (arith, is, some));
      shortest = λ more. holds.are.shortest some;
      apart = holds.are.apart;
    };
  }

  pub grown_blocks : (n : ℕ) (block : Block) (image : Image) → length block ≡ 512 → last ≡ shortest_pattern block → blocks_held patterns runs count start ≡ image → blocks_held patterns runs (count + n) start ≡ image ++ replicate n block
  grown_blocks n block image size same is =
      blocks_more (blocks_of_runs front runs) count n (fill last)
      ∙ ap (λ (img : Image). img ++ replicate n (fill last)) is
      ∙ ap (λ (b : Block). image ++ replicate n b) (ap fill same ∙ shortest-fills block size)

  -- the last run ends, and another begins
  module _ (n : ℕ) (block : Block) (size : length block ≡ 512) (some : 0 < count) (patterns' : List ℕ) (runs' : List Run) (patterns_are : patterns' ≡ patterns ++ shortest_pattern block) (runs_are : runs' ≡ runs ++ closed_run patterns count start ∷ []) where
    abbrev next : List ℕ
    next = shortest_pattern block

    closed_is : closed_run patterns count start ≡ record { count = count; start = length front; len = length last }
    closed_is = λ p. record { count = count; start = sym front_length p; len = sym (length-drop start patterns) p }

    front_is : take (length patterns) patterns' ≡ front ++ last
    front_is = ap (take (length patterns)) patterns_are ∙ take_at patterns next (length patterns) refl ∙ sym both

    last_is : drop (length patterns) patterns' ≡ next
    last_is = ap (drop (length patterns)) patterns_are ∙ drop_at patterns next (length patterns) refl

    runs_is : runs' ≡ runs ++ record { count = count; start = length front; len = length last } ∷ []
    runs_is = runs_are ∙ ap (λ (r : Run). runs ++ r ∷ []) closed_is

    fills : fill next ≡ block
    fills = shortest-fills block size

    pub begins : 0 < n → (last ≡ next → ⊥) → HoldsRuns patterns' runs' n (length patterns)
    begins more other = record {
      room = omega (arith, ap length patterns_are, length-append patterns next);
      are = subst (λ (l : List ℕ). AreRuns (take (length patterns) patterns') runs' n l) (sym last_is)
          (subst (λ (l : List ℕ). AreRuns l runs' n next) (sym front_is)
          (subst (λ (l : List Run). AreRuns (front ++ last) l n next) (sym runs_is)
          (closes front runs count last some holds.are n next more (ap (λ (b : Block). shortest_pattern b) fills) (λ same. other (sym same)))));
    }

    pub begun_blocks : (image : Image) → blocks_held patterns runs count start ≡ image → blocks_held patterns' runs' n (length patterns) ≡ image ++ replicate n block
    begun_blocks image is =
        ap (λ (l : List ℕ). blocks_of_runs (take (length patterns) patterns') runs' ++ replicate n (fill l)) last_is
        ∙ ap (λ (l : List ℕ). blocks_of_runs l runs' ++ replicate n (fill next)) front_is
        ∙ ap (λ (l : List Run). blocks_of_runs (front ++ last) l ++ replicate n (fill next)) runs_is
        ∙ ap (λ (img : Image). img ++ replicate n (fill next)) (closed_blocks front runs count last some holds.are ∙ is)
        ∙ ap (λ (b : Block). image ++ replicate n b) fills

-- a run of blocks that are held, by its number
module _ (patterns : List ℕ) (runs : List Run) (count start : ℕ) (image : Image) (i : ℕ) (holds : HoldsRuns patterns runs count start) (is : blocks_held patterns runs count start ≡ image) (lt : i < length (runs_of image)) where
  some_blocks : 0 < count
  some_blocks = elim (cases_lt 0 count) [
    | inl some ↦ some
    | inr le ↦
        let none : count ≡ 0 = omega (arith, le) in
        let no_run = ap (λ (img : Image). length (runs_of img)) (sym is ∙ no_runs (take start patterns) runs count (drop start patterns) none holds.are) in absurd (omega (arith, lt, no_run))
  ]

  pub held_within : i < length runs + 1
  held_within = let number = run_count (take start patterns) runs count (drop start patterns) some_blocks holds.are in omega (arith, lt, number, ap (λ (img : Image). length (runs_of img)) is)

  pub last_count : i ≡ length runs → count ≡ (run_at image i).count
  last_count end = sym (ap (λ (f : RunForm). f.count) (last_run (take start patterns) runs count (drop start patterns) some_blocks holds.are i end)) ∙ ap (λ (img : Image). (run_at img i).count) is

  pub last_pattern : i ≡ length runs → drop start patterns ≡ shortest_pattern (run_at image i).block
  last_pattern end = sym (ap (λ (f : RunForm). f.pattern) (last_run (take start patterns) runs count (drop start patterns) some_blocks holds.are i end)) ∙ ap (λ (img : Image). shortest_pattern (run_at img i).block) is

  pub earlier_count : (run : Run) → i < length runs → run ≡ get_or runs i run → run.count ≡ (run_at image i).count
  earlier_count run before run_is =
      ap (λ (r : Run). r.count) run_is
      ∙ sym (ap (λ (f : RunForm). f.count) (earlier_run (take start patterns) runs count (drop start patterns) some_blocks holds.are i run before))
      ∙ ap (λ (img : Image). (run_at img i).count) is

  in_front : (run : Run) → i < length runs → run ≡ get_or runs i run → run.start + run.len ≤ length (take start patterns)
  in_front run before run_is = omega (arith, within_at (length (take start patterns)) runs i run before holds.are.within, ap (λ (r : Run). r.start + r.len) run_is)

  pub earlier_pattern : (run : Run) → i < length runs → run ≡ get_or runs i run → pattern_of patterns run ≡ shortest_pattern (run_at image i).block
  earlier_pattern run before run_is =
      ap (λ (l : List ℕ). pattern_of l run) (sym (take-append-drop start patterns))
      ∙ pattern_same (take start patterns) (drop start patterns) run (in_front run before run_is)
      ∙ ap (pattern_of (take start patterns)) run_is
      ∙ sym (ap (λ (f : RunForm). f.pattern) (earlier_run (take start patterns) runs count (drop start patterns) some_blocks holds.are i run before))
      ∙ ap (λ (img : Image). shortest_pattern (run_at img i).block) is

  pub earlier_within : (run : Run) → i < length runs → run ≡ get_or runs i run → run.start + run.len ≤ length patterns
  earlier_within run before run_is = omega (arith, in_front run before run_is, length-take-le start patterns holds.room, holds.room)
