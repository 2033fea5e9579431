-- The dead nodes of a repair that is not turned back: each rank has a node of its own, and layers make whole batches.
use mathlib.Core.Path.{◌≡◌}
use mathlib.Core.Logic.{◌≢◌}
use mathlib.Core.Bool.{true, false}
use mathlib.Core.List.{List}
use Prim.Native.Nat.{ℕ, ◌%◌, ◌^◌, ◌<◌}
use lib.ListN.{length}
use Rattle.lists.specs.Lists.{position, rising}
use Rattle.lists.specs.Digits.{flip}
use Rattle.lists.proofs.Members.{rising_below, rising_distinct, rising_position}
use Rattle.lists.proofs.Flips.{flip_lt}
use Rattle.shape.specs.declared.Shape.{Shape}
use Rattle.shape.specs.Refusals.{repair_bad, layers_bad}
use Rattle.shape.proofs.Accepted.{Repairable, repair_accepted, layers_accepted}
use Rattle.code.specs.Code.{Code, GoodCode}
use Rattle.classes.specs.Classes.{batch, node}

pub record Dead (s : Shape) (dead : List ℕ) : Type 0 where
  pub rises : rising 0 s.n dead ≡ true
  pub whole : s.layers % batch dead ≡ 0

module _ {s : Shape} {dead : List ℕ} (D : Dead s dead) where
  pub node_below : (u : ℕ) → u < length dead → node dead u < s.n
  unfolding node
  node_below u h = rising_below s.n dead D.rises u h

  pub node_own : (u v : ℕ) → u < length dead → v < length dead → u ≢ v → node dead u ≢ node dead v
  unfolding node
  node_own u v h k d e = d (rising_distinct s.n dead D.rises u v h k e)

  pub node_position : (u : ℕ) → u < length dead → position (node dead u) dead ≡ u
  unfolding node
  node_position u h = rising_position s.n dead D.rises u h

  pub flip_node_lt : (u a : ℕ) → u < length dead → a < 2 ^ s.n → flip (node dead u) a < 2 ^ s.n
  flip_node_lt u a h l = flip_lt s.n (node dead u) a (node_below u h) l

-- a repair of a good code that is not turned back
pub record Accepted (c : Code) (s : Shape) (dead helpers : List ℕ) : Type 0 where
  pub code : GoodCode c s.n
  pub lists : Repairable s dead helpers
  pub whole : s.layers % batch dead ≡ 0

pub accepted : (c : Code) (s : Shape) (dead helpers : List ℕ) → GoodCode c s.n → repair_bad s dead helpers ≡ false
    → layers_bad s.layers (batch dead) ≡ false
    → Accepted c s dead helpers
accepted c s dead helpers good e f = record { code = good; lists = repair_accepted s dead helpers e; whole = layers_accepted s.layers (batch dead) f }

pub dead_of : {c : Code} {s : Shape} {dead helpers : List ℕ} → Accepted c s dead helpers → Dead s dead
dead_of A = record { rises = A.lists.dead_rising; whole = A.whole }
