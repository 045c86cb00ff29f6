-- What classes say of their own members, by what typing knows of them: attributes with their types, and methods with the signatures of
-- their functions. An attribute that nothing declares is no member.
use Rattle.std.specs.Prelude.{ℕ, List, map, Option, Some, None, slice_get}
use Rattle.std.specs.List.{filter_map}
use Rattle.std.specs.Option.{option_map}
use Rattle.py_typed.specs.Classes.{Signature}
use Rattle.class_layout_members.specs.Clashes.{Definition, OfType, OfSignature}
use Rattle.py_check_context.specs.Context.{some_signature}
use Rattle.py_check_context.specs.Members.{Member, member, attribute, untyped, unknown, method}
use Rattle.py_check_context.specs.declared.members.ClassMembers.{ClassMembers}
use Rattle.py_check_overrides.specs.Overrides.{Own}

-- where these are the signatures of functions by their numbers
module _ (signatures : List (Option Signature)) where
  abbrev pub method_says : ℕ → Option Definition
  method_says f = option_map (λ s. OfSignature (Some s)) (some_signature (slice_get signatures f))

  -- a member with what is said of it
  abbrev pub own_member : List ℕ → Member → Option Own
  own_member name (attribute t) = Some (name, Some (OfType t))
  own_member name untyped = Some (name, None)
  own_member name (unknown place) = None
  own_member name (method f) = Some (name, method_says f)

  abbrev pub own_in : List (List ℕ × Member) → List Own
  own_in members = filter_map (λ p. own_member p.0 p.1) members

  abbrev pub own_row : ClassMembers → List Own
  own_row c = own_in (map (λ p. (p.0, member p.1)) c.own.entries)
