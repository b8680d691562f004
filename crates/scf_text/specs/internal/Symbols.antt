-- Where the parts of a line stand in the text, and what stands at an index.
use Rattle.std.specs.Prelude.{◌≡◌, ℕ, ◌+◌, ◌-◌, ◌<◌, ◌≤◌, true, false, List, ◌++◌, take, drop, length, Option, Some, None}
use Rattle.std.specs.Borrow.{Bor}
use Rattle.std.specs.List.{count_by, take_while}
use Rattle.scf_text.specs.declared.part.Next.{Next}
use Rattle.scf_text.specs.declared.part.Next.TheVariants.{Token, End}
use Rattle.scf_text.specs.Characters.{is_line_end, is_word_byte}
use Rattle.scf_text.specs.ParsedInsns.{is_name}
use Rattle.scf_text.specs.internal.Parts.{begins_in_word}

-- the name that begins at this index: the word there
abbrev pub name_at : List ℕ → ℕ → List ℕ
name_at text index = take_while is_word_byte (drop index text)

-- how many line ends there are
abbrev pub count_ends : List ℕ → ℕ
count_ends bytes = count_by is_line_end bytes

-- the number of the line in which this index is
abbrev pub line_at : List ℕ → ℕ → ℕ
line_at text index = 1 + count_ends (take index text)

-- The part begins at this index, in this line. No word goes on behind it.
pub record IsLinePart (text : List ℕ) (line start : ℕ) (part : List ℕ) : Type 0 where
  pub behind : List ℕ
  pub whole : drop start text ≡ part ++ behind
  pub ends : begins_in_word behind ≡ false
  pub numbered : line_at text start ≡ line
  pub unbroken : count_ends part ≡ 0
  pub within : start + length part ≤ length text

-- The rest of a part begins behind this index of it.
pub record IsBehind (part : List ℕ) (index : ℕ) (remaining : List ℕ) : Type 0 where
  pub start : ℕ
  pub later : index < start
  pub within : start ≤ length part
  pub is : remaining ≡ drop start part

-- so does what follows a statement, if something does
abbrev pub FollowsBehind : List ℕ → ℕ → Option (Bor (List ℕ)) → Type 0
FollowsBehind part index None = index ≤ length part
FollowsBehind part index (Some remaining) = IsBehind part index remaining.now

-- so does what follows the token in front
abbrev pub LiesBehind : List ℕ → ℕ → Next → Type 0
LiesBehind part index (Token t remaining) = IsBehind part index remaining.now
LiesBehind part index (End remaining) = FollowsBehind part index remaining

-- The token begins at its start. If it is a name, it is the word there.
abbrev pub BeginsAt : List ℕ → Next → Type 0
BeginsAt part (Token t remaining) =
    (is_name t.text.now ≡ true → name_at part t.start ≡ t.text.now) × IsBehind part t.start remaining.now
BeginsAt part (End remaining) = Unit {0}

-- where what follows a statement begins, or an index behind the part if nothing does
abbrev pub index_after : ℕ → List ℕ → Option (Bor (List ℕ)) → ℕ
index_after start part None = start + length part + 1
index_after start part (Some remaining) = start + (length part - length remaining.now)
