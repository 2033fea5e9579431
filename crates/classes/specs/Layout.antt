-- What a repair's shape and dead nodes fix, and what is known of it where no cause turned the repair back.
use Rattle.std.specs.Prelude.{◌≡◌, true, false, List, ℕ, ◌+◌, ◌/◌, ◌%◌, ◌^◌, ◌≤◌, ◌<◌, length, get_or}
use Rattle.lists.specs.Lists.{rising}
use Rattle.shape.specs.Refusals.{shape_bad}
use Rattle.classes.specs.declared.Layout.{Layout}
use Rattle.classes.specs.Classes.{batch, top, members, message_size}

-- the numbers of a layout are those of its shape and the dead nodes, and no cause 1 to 3 holds of these
pub record Ready (dead : List ℕ) (g : Layout) : Type 0 where
  pub shaped : shape_bad g.shape ≡ false
  pub rises : rising 0 g.shape.n dead ≡ true
  pub some : 1 ≤ length dead
  pub few : length dead < g.shape.n
  pub whole : g.shape.layers % batch dead ≡ 0
  pub places_is : g.places ≡ 2 ^ g.shape.n
  pub batch_is : g.batch ≡ batch dead
  pub batches_is : g.batches ≡ g.shape.layers / batch dead
  pub top_is : g.top ≡ top dead
  pub members_is : g.members ≡ 2 ^ g.shape.n / (top dead + 1)
  pub share_is : g.share ≡ message_size g.shape dead

-- the first elements of a table are the a of class c below 2^n, rising
pub record Fronted (dead : List ℕ) (c n : ℕ) (out : List ℕ) : Type 0 where
  pub each : (x : ℕ) → x < length (members dead c (2 ^ n)) → get_or out x 0 ≡ get_or (members dead c (2 ^ n)) x 0
