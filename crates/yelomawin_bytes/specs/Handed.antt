-- How an input goes from its bytes into its room, and a result from its room into its bytes.
use Rattle.std.specs.Prelude.{ℕ, ◌/◌, ◌≤◌, ◌≡◌, Bool, true, cond, ◌&&◌, ◌||◌, List, leb, length, replicate, take}
use Rattle.definitions.specs.Lists.{padded}
use Rattle.yelomawin_bytes.specs.Calls.{writes}

-- the numbers of w bytes each stand in the front of the room, which is as long as it was
pub record Read {A : Type 0} (w : ℕ) (numbers : List ℕ → List A) (bytes : List ℕ) (lent room : List A) : Type 0 where
  pub long : length room ≡ length lent
  pub fit : length bytes / w ≤ length room
  pub front : take (length bytes / w) room ≡ numbers bytes

-- the call with this number leaves all: refused, and not by 14 to 24
unfoldable pub leaves_all : ℕ → Bool
leaves_all number = leb 1 number && (leb number 13 || leb 25 number)

-- where all is left, room and bytes are as they were; else the room is zeros, and the bytes, where they have place for it, are the room's and zeros after them
pub record Handed {A : Type 0} (w : ℕ) (z : A) (spell : List A → List ℕ) (kept : Bool) (room : List A) (bytes : List ℕ) (room' : List A) (bytes' : List ℕ) : Type 0 where
  pub cleared : room' ≡ cond kept room (replicate (length room) z)
  pub written : writes w room bytes ≡ true → bytes' ≡ cond kept bytes (padded 0 (length bytes) (spell room))
