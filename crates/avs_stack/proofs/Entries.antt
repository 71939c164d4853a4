-- A map of names, seen as a list of volumes.
use Rattle.std.proofs.Common.{◌≡◌, ℕ, ◌+◌, Bool, true, false, not, cond, Option, None, Some, List, [], ◌∷◌, ◌++◌, map, is_some, if◌then◌else◌, IfSome, slice_get, Result, Ok, Err, OnErr, refl, sym, ap, ◌∙◌, true≢false, unwrap_or}
use Rattle.std.specs.List.{IsDistinct, AllByRecursion, position, position_or_len}
use Rattle.std.specs.Option.{option_map}
use Rattle.std.specs.Str.{bytes_eq}
use Rattle.std.specs.Map.{keys_of, lookup, remove_entry, set_value}
use Rattle.std.proofs.lemmas.List.Folds.{find_at}
use Rattle.indexmap.specs.IndexMap.{insert_entry}
use Rattle.std.specs.Cmp.Lexicographic.{bytes_decides}
use Rattle.avs_stack.specs.declared.roles.Roles.{Roles}
use Rattle.avs_stack.specs.declared.stack.Kept.{Kept}
use Rattle.avs_stack.specs.Names.{Named, AreApart, no_roles, is_named, named_in, has_name, with_name, with_roles, without_name}
use Rattle.avs_stack.specs.Kept.{named}

not_first : {X : Type 0} (b : Bool) (x : X) (rest : Option X) → cond b (Some x) rest ≡ None → b ≡ false
not_first true x rest none = absurd (true≢false (ap is_some none))
not_first false x rest none = refl

behind : {X : Type 0} (b : Bool) (x : X) (rest : Option X) → cond b (Some x) rest ≡ None → rest ≡ None
behind true x rest none = absurd (true≢false (ap is_some none))
behind false x rest none = none

map_cond : {X Y : Type 0} (f : X → Y) (b : Bool) (x : X) (rest : Option X) → option_map f (cond b (Some x) rest) ≡ cond b (Some (f x)) (option_map f rest)
map_cond f true x rest = refl
map_cond f false x rest = refl

some_cond : {X : Type 0} (b : Bool) (x : X) (rest : Option X) → is_some (cond b (Some x) rest) ≡ cond b true (is_some rest)
some_cond true x rest = refl
some_cond false x rest = refl

is_none : {X : Type 0} (o : Option X) → is_some o ≡ false → o ≡ None
is_none None none = refl
is_none (Some x) none = absurd (true≢false none)

pub err_exit : {T E P : Type 0} (r : Result T E) → P → OnErr r P
err_exit (Ok x) p = tt
err_exit (Err e) p = p

-- a place that is found is that one
is_place : (b : Bool) (n i : ℕ) → Some i ≡ cond b (Some n) None → i ≡ n
is_place true n i found = ap (λ o. unwrap_or o i) found
is_place false n i found = absurd (true≢false (ap is_some found))

-- a name that is taken leaves the names as they are
pub kept_as_is : (stack : List Named) (name : List ℕ) (number : ℕ) → has_name stack name ≡ true → stack ≡ with_name stack name number
kept_as_is stack name number taken =
    ap (λ b. if b then stack else stack ++ record { name = name; number = number; roles = no_roles } ∷ []) (sym taken)

module _ {K : Type 0} (bytes : K → List ℕ) where
  module _ (name : List ℕ) where
    -- what is found by a name is what the map keeps by it
    pub looked : {X : Type 0} (f : Named → X) (g : Kept → X) → ((e : K × Kept) → g e.1 ≡ f (named bytes e))
        → (es : List (K × Kept)) → option_map g (lookup (λ key. bytes_eq name (bytes key)) es) ≡ option_map f (named_in (map (named bytes) es) name)
    looked f g same [] = refl
    looked f g same (e ∷ es) =
        let b = bytes_eq name (bytes e.0) in
        map_cond g b e.1 (lookup (λ key. bytes_eq name (bytes key)) es)
        ∙ (λ i. cond b (Some (same e i)) (looked f g same es i))
        ∙ sym (map_cond f b (named bytes e) (named_in (map (named bytes) es) name))

    pub there : (es : List (K × Kept)) → is_some (lookup (λ key. bytes_eq name (bytes key)) es) ≡ has_name (map (named bytes) es) name
    there [] = refl
    there (e ∷ es) =
        let b = bytes_eq name (bytes e.0) in
        some_cond b e.1 (lookup (λ key. bytes_eq name (bytes key)) es)
        ∙ ap (cond b true) (there es)
        ∙ sym (some_cond b (named bytes e) (named_in (map (named bytes) es) name))

    -- what stands at the place of its key is what is found by it
    same_place : (es : List (K × Kept)) → position_or_len (λ key. bytes_eq name (bytes key)) (keys_of es) ≡ position_or_len (is_named name) (map (named bytes) es)
    same_place [] = refl
    same_place (e ∷ es) = ap (λ n. cond (not (bytes_eq name (bytes e.0))) (1 + n) 0) (same_place es)

    pub placed : (es : List (K × Kept)) (place : Option ℕ) → place ≡ position (λ key. bytes_eq name (bytes key)) (keys_of es)
        → IfSome place (λ at. slice_get (map (named bytes) es) at ≡ named_in (map (named bytes) es) name)
    placed es None found = tt
    placed es (Some at) found =
        let stack = map (named bytes) es in
        ap (slice_get stack) (is_place _ _ at found ∙ same_place es) ∙ sym (find_at (is_named name) stack)

    -- where it has none, nothing is taken out, and nothing is given roles
    stays : (es : List (K × Kept)) → lookup (λ key. bytes_eq name (bytes key)) es ≡ None → map (named bytes) es ≡ without_name (map (named bytes) es) name
    stays [] none = refl
    stays (e ∷ es) none =
        let rest = lookup (λ key. bytes_eq name (bytes key)) es in
        let here = not_first (bytes_eq name (bytes e.0)) e.1 rest none in
        ap (λ l. named bytes e ∷ l) (stays es (behind (bytes_eq name (bytes e.0)) e.1 rest none))
        ∙ ap (λ b. cond (not b) (named bytes e ∷ without_name (map (named bytes) es) name) (without_name (map (named bytes) es) name)) (sym here)

    pub untouched : (roles : Roles) (es : List (K × Kept)) → lookup (λ key. bytes_eq name (bytes key)) es ≡ None → map (named bytes) es ≡ with_roles (map (named bytes) es) name roles
    untouched roles [] none = refl
    untouched roles (e ∷ es) none =
        let rest = lookup (λ key. bytes_eq name (bytes key)) es in
        let here = not_first (bytes_eq name (bytes e.0)) e.1 rest none in
        ap (λ l. named bytes e ∷ l) (untouched roles es (behind (bytes_eq name (bytes e.0)) e.1 rest none))
        ∙ ap (λ b. cond b (record (named bytes e) { roles = roles }) (named bytes e) ∷ with_roles (map (named bytes) es) name roles) (sym here)

    -- the first of that name is taken out, and there is no other
    removed_at : (e : K × Kept) (es left : List (K × Kept)) → (lookup (λ key. bytes_eq name (bytes key)) left ≡ None → map (named bytes) left ≡ without_name (map (named bytes) es) name)
        → (b : Bool) → lookup (λ key. bytes_eq name (bytes key)) (cond b es (e ∷ left)) ≡ None
        → map (named bytes) (cond b es (e ∷ left)) ≡ cond (not b) (named bytes e ∷ without_name (map (named bytes) es) name) (without_name (map (named bytes) es) name)
    removed_at e es left later true gone = stays es gone
    removed_at e es left later false gone =
        ap (λ l. named bytes e ∷ l) (later (behind (bytes_eq name (bytes e.0)) e.1 (lookup (λ key. bytes_eq name (bytes key)) left) gone))

    pub removed : (es : List (K × Kept)) → lookup (λ key. bytes_eq name (bytes key)) (remove_entry (λ key. bytes_eq name (bytes key)) es) ≡ None
        → map (named bytes) (remove_entry (λ key. bytes_eq name (bytes key)) es) ≡ without_name (map (named bytes) es) name
    removed [] none = refl
    removed (e ∷ es) none =
        removed_at e es (remove_entry (λ key. bytes_eq name (bytes key)) es) (λ gone. removed es gone) (bytes_eq name (bytes e.0)) none

    -- no later key is the one that passes
    no_other : (key : K) (es : List (K × Kept)) → name ≡ bytes key → AllByRecursion (λ y. bytes_eq (bytes key) (bytes y) ≡ false) (keys_of es)
        → lookup (λ k. bytes_eq name (bytes k)) es ≡ None
    no_other key [] same apart = refl
    no_other key (e ∷ es) same apart =
        ap (λ b. cond b (Some e.1) (lookup (λ k. bytes_eq name (bytes k)) es)) (ap (λ n. bytes_eq n (bytes e.0)) same ∙ apart.0)
        ∙ no_other key es same apart.1

    -- the one of that name is given roles
    given_at : (roles : Roles) (kept : Kept) (e : K × Kept) (es : List (K × Kept)) → AllByRecursion (λ y. bytes_eq (bytes e.0) (bytes y) ≡ false) (keys_of es)
        → (set : List (K × Kept)) → (lookup (λ key. bytes_eq name (bytes key)) es ≡ Some kept → map (named bytes) set ≡ with_roles (map (named bytes) es) name roles)
        → (b : Bool) → bytes_eq name (bytes e.0) ≡ b → cond b (Some e.1) (lookup (λ key. bytes_eq name (bytes key)) es) ≡ Some kept
        → map (named bytes) (cond b ((e.0, record kept { roles = roles }) ∷ es) (e ∷ set))
        ≡ cond b (record (named bytes e) { roles = roles }) (named bytes e) ∷ with_roles (map (named bytes) es) name roles
    given_at roles kept e es apart set later true is here =
        let same : e.1 ≡ kept = ap (λ r. unwrap_or r kept) here in
        let rest = untouched roles es (no_other e.0 es ((bytes_decides name (bytes e.0)).0 is) apart) in
        (λ i. named bytes (e.0, record (sym same i) { roles = roles }) ∷ rest i)
    given_at roles kept e es apart set later false is here = ap (λ l. named bytes e ∷ l) (later here)

    pub given : (roles : Roles) (kept : Kept) (es : List (K × Kept)) → IsDistinct (λ k y. bytes_eq (bytes k) (bytes y)) (keys_of es)
        → lookup (λ key. bytes_eq name (bytes key)) es ≡ Some kept
        → map (named bytes) (set_value (λ key. bytes_eq name (bytes key)) es (record kept { roles = roles })) ≡ with_roles (map (named bytes) es) name roles
    unfolding IsDistinct
    given roles kept [] apart found = refl
    given roles kept (e ∷ es) apart found =
        given_at roles kept e es apart.0 (set_value (λ key. bytes_eq name (bytes key)) es (record kept { roles = roles })) (λ later. given roles kept es apart.1 later) (bytes_eq name (bytes e.0)) refl found

  later_apart : (key : K) (fs : List (K × Kept)) → AllByRecursion (λ y. bytes_eq (bytes key) (bytes y) ≡ false) (keys_of fs)
      → AllByRecursion (λ y. bytes_eq (bytes key) y ≡ false) (map (λ volume. volume.name) (map (named bytes) fs))
  later_apart key [] all = tt
  later_apart key (f ∷ fs) all = (all.0, later_apart key fs all.1)

  -- the names are apart as the keys are
  pub names_apart : (es : List (K × Kept)) → IsDistinct (λ k y. bytes_eq (bytes k) (bytes y)) (keys_of es) → AreApart (map (named bytes) es)
  unfolding IsDistinct
  names_apart [] apart = tt
  names_apart (e ∷ es) apart = (later_apart e.0 es apart.0, names_apart es apart.1)

  -- a key that is not there goes behind the others
  insert_new : (key : K) (kept : Kept) (es : List (K × Kept)) → lookup (λ k. bytes_eq (bytes key) (bytes k)) es ≡ None
      → map (named bytes) (insert_entry (λ k y. bytes_eq (bytes k) (bytes y)) es key kept) ≡ map (named bytes) es ++ named bytes (key, kept) ∷ []
  insert_new key kept [] none = refl
  insert_new key kept (e ∷ es) none =
      let rest = lookup (λ k. bytes_eq (bytes key) (bytes k)) es in
      let b = bytes_eq (bytes key) (bytes e.0) in
      ap (λ c. map (named bytes) (if c then (e.0, kept) ∷ es else e ∷ insert_entry (λ k y. bytes_eq (bytes k) (bytes y)) es key kept)) (not_first b e.1 rest none)
      ∙ ap (λ l. named bytes e ∷ l) (insert_new key kept es (behind b e.1 rest none))

  -- a name that is not taken is added
  pub made : (name : List ℕ) (number : ℕ) (key : K) (roles : Roles) (es : List (K × Kept)) → bytes key ≡ name → roles ≡ no_roles
      → has_name (map (named bytes) es) name ≡ false
      → map (named bytes) (insert_entry (λ k y. bytes_eq (bytes k) (bytes y)) es key (record { number = number; roles = roles })) ≡ with_name (map (named bytes) es) name number
  made name number key roles es same none free =
      let stack = map (named bytes) es in
      let absent = is_none (lookup (λ k. bytes_eq name (bytes k)) es) (there name es ∙ free) in
      insert_new key (record { number = number; roles = roles }) es (ap (λ n. lookup (λ k. bytes_eq n (bytes k)) es) same ∙ absent)
      ∙ (λ i. stack ++ record { name = same i; number = number; roles = none i } ∷ [])
      ∙ ap (λ b. if b then stack else stack ++ record { name = name; number = number; roles = no_roles } ∷ []) (sym free)
