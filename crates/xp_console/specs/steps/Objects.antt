-- An object of JSON that gets its members one by one.
use Rattle.std.specs.Prelude.{◌≡◌, IfOk, Result}
use Rattle.std.specs.declared.alloc.AllocError.{AllocError}
use Rattle.serde_json.specs.Data.{Data, Members}
use Rattle.serde_json.specs.View.{members_view, view}
use Rattle.serde_json.specs.declared.value.Value.{Value}
use Rattle.xp_console.specs.declared.object.Object.{Object}

-- no allocation for it has failed so far, and then it has these members
abbrev pub Holds : Object → Members → Type 0
Holds object members = IfOk object.members (λ map. members_view map.entries ≡ members)

-- where the value could be made, it stands for this data
abbrev pub IsSeenAs : Result Value AllocError → Data → Type 0
IsSeenAs value seen = IfOk value (λ made. view made ≡ seen)
