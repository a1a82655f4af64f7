-- How bodies are entered, one after another.
use Rattle.std.specs.Prelude.{◌≡◌, ℕ, List, ◌++◌, drop}
use Rattle.mw_model.specs.Items.{NetItem}
use Rattle.mw_client.specs.Bodies.{Body, IsBody, body_bytes, after_body}

-- so many bytes at the front of a text are a body, which leads from one list to another
pub record Enters (text : List ℕ) (size : ℕ) (before after : List NetItem) : Type 0 where
  pub body : Body
  pub is : IsBody body
  pub layout : text ≡ body_bytes body ++ drop size text
  pub list : after ≡ after_body before body
