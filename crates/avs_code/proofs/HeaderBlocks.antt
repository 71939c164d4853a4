-- The header of an entry and its block, behind four magic bytes.
use Rattle.std.proofs.Common.{◌≡◌, ℕ, ◌<◌, ◌≤◌, ◌^◌, Bool, true, false, List, [], ◌∷◌, length, get_or, take, drop, refl, sym, ◌∙◌, ap, subst, arith}
use Rattle.std.specs.Prelude.{nat_eq, nat_le, min, ◌++◌, ◌==◌, None, if◌then◌else◌}
use Rattle.std.specs.Bool.{Decides}
use Rattle.std.specs.List.{starts_with}
use Rattle.std.proofs.lemmas.Bool.Decides.{Decides-and, Decides-eqb}
use Rattle.std.proofs.lemmas.Nat.{from_be_bytes-to_be_bytes_4, from_be_bytes-to_be_bytes_8}
use Rattle.std.proofs.lemmas.List.{append_assoc}
use Rattle.std.proofs.lemmas.Slice.Eq.{starts_is, text_from_reads}
use Rattle.avs_seg.specs.Image.{Block}
use Rattle.avs_code.specs.Bytes.{zeros, all_zero, u32_bytes, u64_bytes, u32_at, u64_at}
use Rattle.avs_code.specs.Rules.{first_broken}
use Rattle.avs_code.specs.Header.{header_block, header_at, header_field_rules, header_rules, HeaderKeeps, HeaderFits, IsHeader, is_len, most_len}
use Rattle.avs_code.specs.declared.land_headers.LandHeader.{LandHeader}
use Rattle.avs_code.proofs.Ruled.{AllHold, first_broken-None, first_broken-all, Decides-leb}
use Rattle.avs_code.proofs.Numbers.{front-u32, front-u64, front-zeros, front-magic, all_zero-zeros, u32_at-fits, length-u32_bytes, length-u64_bytes, Begins, written}

-- four bytes, one by one
four : (xs : List ℕ) → length xs ≡ 4 → xs ≡ get_or xs 0 0 ∷ get_or xs 1 0 ∷ get_or xs 2 0 ∷ get_or xs 3 0 ∷ []
four xs len = text_from_reads xs (get_or xs 0 0 ∷ get_or xs 1 0 ∷ get_or xs 2 0 ∷ get_or xs 3 0 ∷ []) len (refl, (refl, (refl, (refl, tt))))

length_bound : (a b : Bool) → (if a then 256 else (if b then 64 else 0)) ≤ 256
length_bound true b = omega arith
length_bound false true = omega arith
length_bound false false = omega arith

most_len-le : (kind : ℕ) → most_len kind ≤ 256
most_len-le kind = length_bound (kind == 1) (kind == 2)

-- what lies in the block are the fields
header_at-four : (a b c d : ℕ) (x : LandHeader) → HeaderKeeps x → HeaderFits x → header_at (header_block (a ∷ b ∷ c ∷ d ∷ []) x) ≡ x
unfolding u32_bytes u64_bytes u32_at u64_at header_block
header_at-four a b c d x keeps fits =
    let magic : List ℕ = a ∷ b ∷ c ∷ d ∷ [] in
    let version : u32_at 4 (header_block magic x) ≡ x.version = from_be_bytes-to_be_bytes_4 x.version (omega arith) in
    let session : u64_at 8 (header_block magic x) ≡ x.session = from_be_bytes-to_be_bytes_8 x.session (omega arith) in
    let place : u64_at 16 (header_block magic x) ≡ x.place = from_be_bytes-to_be_bytes_8 x.place (omega arith) in
    let kind : u32_at 24 (header_block magic x) ≡ x.kind = from_be_bytes-to_be_bytes_4 x.kind (omega arith) in
    let set : u32_at 28 (header_block magic x) ≡ x.set = from_be_bytes-to_be_bytes_4 x.set fits.set in
    let at : u32_at 32 (header_block magic x) ≡ x.at = from_be_bytes-to_be_bytes_4 x.at fits.at in
    let len : u32_at 36 (header_block magic x) ≡ x.len = from_be_bytes-to_be_bytes_4 x.len (omega (arith, most_len-le x.kind)) in
    rw (version, session, place, kind, set, at, len) refl

rest-four : (a b c d : ℕ) (x : LandHeader) → all_zero (drop 40 (header_block (a ∷ b ∷ c ∷ d ∷ []) x)) ≡ true
unfolding u32_bytes u64_bytes header_block
rest-four a b c d x = all_zero-zeros 472

module _ (magic : List ℕ) (size : length magic ≡ 4) where
  -- what is written field by field is the block
  pub header_block-written : (x : LandHeader) (b0 b1 b2 b3 b4 b5 b6 b7 : Block) → b0 ≡ magic ++ zeros 508 → b1 ≡ (take 4 b0 ++ u32_bytes x.version) ++ drop 8 b0 → b2 ≡ (take 8 b1 ++ u64_bytes x.session) ++ drop 16 b1 → b3 ≡ (take 16 b2 ++ u64_bytes x.place) ++ drop 24 b2 → b4 ≡ (take 24 b3 ++ u32_bytes x.kind) ++ drop 28 b3 → b5 ≡ (take 28 b4 ++ u32_bytes x.set) ++ drop 32 b4 → b6 ≡ (take 32 b5 ++ u32_bytes x.at) ++ drop 36 b5 → b7 ≡ (take 36 b6 ++ u32_bytes x.len) ++ drop 40 b6 → b7 ≡ header_block magic x
  unfolding header_block
  header_block-written x b0 b1 b2 b3 b4 b5 b6 b7 e0 e1 e2 e3 e4 e5 e6 e7 =
      let f0 : Begins b0 magic 4 508 = record { bytes = e0; place = size } in
      let f1 = written b1 (u32_bytes x.version) 4 4 504 f0 (length-u32_bytes _) e1 in
      let f2 = written b2 (u64_bytes x.session) 8 8 496 f1 (length-u64_bytes _) e2 in
      let f3 = written b3 (u64_bytes x.place) 16 8 488 f2 (length-u64_bytes _) e3 in
      let f4 = written b4 (u32_bytes x.kind) 24 4 484 f3 (length-u32_bytes _) e4 in
      let f5 = written b5 (u32_bytes x.set) 28 4 480 f4 (length-u32_bytes _) e5 in
      let f6 = written b6 (u32_bytes x.at) 32 4 476 f5 (length-u32_bytes _) e6 in
      let f7 = written b7 (u32_bytes x.len) 36 4 472 f6 (length-u32_bytes _) e7 in
      f7.bytes

  pub header_at-is : (block : Block) (x : LandHeader) → IsHeader magic block x → header_at block ≡ x
  header_at-is block x is =
      let e = header_at-four (get_or magic 0 0) (get_or magic 1 0) (get_or magic 2 0) (get_or magic 3 0) x is.keeps is.fits in
      ap header_at is.spelled ∙ subst (λ m. header_at (header_block m x) ≡ x) (sym (four magic size)) e

  -- the block of the fields that lie in a block
  header_block-header_at : (block : Block) → length block ≡ 512 → ((i : ℕ) → get_or block i 0 < 256) → starts_with nat_eq block magic ≡ true → all_zero (drop 40 block) ≡ true → block ≡ header_block magic (header_at block)
  unfolding header_block
  header_block-header_at block len bytes begins zero =
      let f0 : magic ≡ take 4 block = front-magic block magic begins ∙ ap (λ (n : ℕ). take n block) size in
      let f1 = front-u32 _ block 4 f0 (omega arith) bytes in
      let f2 = front-u64 _ block 8 f1 (omega arith) bytes in
      let f3 = front-u64 _ block 16 f2 (omega arith) bytes in
      let f4 = front-u32 _ block 24 f3 (omega arith) bytes in
      let f5 = front-u32 _ block 28 f4 (omega arith) bytes in
      let f6 = front-u32 _ block 32 f5 (omega arith) bytes in
      let f7 = front-u32 _ block 36 f6 (omega arith) bytes in
      sym (front-zeros _ block 40 472 f7 zero len)

len_decides : (kind len : ℕ) → Decides (is_len kind len) ((min (most_len kind) 1 ≤ len) × (len ≤ most_len kind))
len_decides kind len =
    Decides-and (nat_le (min (most_len kind) 1) len) (nat_le len (most_len kind)) (Decides-leb (min (most_len kind) 1) len) (Decides-leb len (most_len kind))

rules-keeps : (x : LandHeader) → HeaderKeeps x → AllHold (header_field_rules x)
rules-keeps x keeps = (
  (Decides-eqb x.version 1).1 keeps.version,
  (
    (Decides-leb x.session (2 ^ 62)).1 keeps.session,
    (
      (Decides-leb x.place (2 ^ 62)).1 keeps.place,
      (
        (Decides-leb x.kind 3).1 keeps.kind,
        (
          refl,
          (
            refl,
            ((len_decides x.kind x.len).1 (keeps.len_some, keeps.len), tt),
          ),
        ),
      ),
    ),
  ),
)

keeps-rules : (x : LandHeader) → AllHold (header_field_rules x) → HeaderKeeps x
keeps-rules x hold =
    let len = (len_decides x.kind x.len).0 hold.1.1.1.1.1.1.0 in
    record {
      version = (Decides-eqb x.version 1).0 hold.0;
      session = (Decides-leb x.session (2 ^ 62)).0 hold.1.0;
      place = (Decides-leb x.place (2 ^ 62)).0 hold.1.1.0;
      kind = (Decides-leb x.kind 3).0 hold.1.1.1.0;
      len_some = len.0;
      len = len.1;
    }

module _ (magic : List ℕ) (size : length magic ≡ 4) where
  -- where every rule holds the block stands for the fields that lie in it
  pub is_header : (block : Block) → length block ≡ 512 → ((i : ℕ) → get_or block i 0 < 256) → first_broken (header_rules magic block) ≡ None → IsHeader magic block (header_at block)
  is_header block len bytes none =
      let hold = first_broken-None (header_rules magic block) none in
      record {
        keeps = keeps-rules (header_at block) (hold.1.0, (hold.1.1.0, (hold.1.1.1.0, (hold.1.1.1.1.0, (hold.1.1.1.1.1.0, (hold.1.1.1.1.1.1.0, (hold.1.1.1.1.1.1.1.0, tt)))))));
        fits = record { set = u32_at-fits block 28 bytes; at = u32_at-fits block 32 bytes };
        spelled = header_block-header_at magic size block len bytes hold.0 hold.1.1.1.1.1.1.1.1.0;
      }

  -- the magic bytes and the rest of the block
  magic-header_block : (x : LandHeader) → starts_with nat_eq (header_block magic x) magic ≡ true
  unfolding header_block
  magic-header_block x =
      let rest : List ℕ = u32_bytes x.version ++ (u64_bytes x.session ++ (u64_bytes x.place ++ (u32_bytes x.kind ++ (u32_bytes x.set ++ (u32_bytes x.at ++ (u32_bytes x.len ++ zeros 472)))))) in
      (starts_is Decides-eqb (header_block magic x) magic _ refl).1 rest (simp append_assoc)

  rest-header_block : (x : LandHeader) → all_zero (drop 40 (header_block magic x)) ≡ true
  rest-header_block x = subst (λ m. all_zero (drop 40 (header_block m x)) ≡ true) (sym (four magic size)) (rest-four (get_or magic 0 0) (get_or magic 1 0) (get_or magic 2 0) (get_or magic 3 0) x)

  -- and where the block stands for a header every rule holds
  pub rules-is_header : (block : Block) (x : LandHeader) → IsHeader magic block x → first_broken (header_rules magic block) ≡ None
  rules-is_header block x is =
      let rules = subst (λ y. AllHold (header_field_rules y)) (sym (header_at-is magic size block x is)) (rules-keeps x is.keeps) in
      let begins : starts_with nat_eq block magic ≡ true = rw is.spelled (magic-header_block x) in
      let rest : all_zero (drop 40 block) ≡ true = rw is.spelled (rest-header_block x) in
      first_broken-all (header_rules magic block) (begins, (rules.0, (rules.1.0, (rules.1.1.0, (rules.1.1.1.0, (rules.1.1.1.1.0, (rules.1.1.1.1.1.0, (rules.1.1.1.1.1.1.0, (rest, tt)))))))))
