-- The routes of the service, which are this project's own. All paths but a report's are literal, and no path is decoded.
use Rattle.std.specs.Prelude.{◌≡◌, ℕ, Bool, true, false, not, ◌&&◌, ◌==◌, nat_lt, if◌then◌else◌, List, [], ◌∷◌, length, take, drop, codes, Option, None, Some, Result, Ok, Err, bytes_eq, ⊤}
use Rattle.std.specs.List.{list_any}
use Rattle.soc_http.specs.declared.verb.Verb.{Verb}
use Rattle.soc_http.specs.declared.verb.Verb.TheVariants.{Get, Post, Other}
use Rattle.soc_http.specs.declared.route.Route.{Route}
pub use Rattle.soc_http.specs.declared.route.Target.{Target}
use Rattle.soc_http.specs.declared.route.Route.TheVariants as R
use Rattle.soc_http.specs.declared.route.RouteError.{RouteError}
use Rattle.soc_http.specs.declared.route.RouteError.TheVariants.{NoRoute, WrongVerb, NoMemory}

abbrev pub to : Verb → Route → Option Target
to verb route = Some (record { verb = verb; route = route })

-- a literal path, what it is taken with, and where it leads
abbrev pub literal : List ℕ → Verb → Route → List ℕ × Target
literal path verb route = (path, record { verb = verb; route = route })

-- the literal paths, in the order of their bytes, and behind them the one that all begin with
abbrev pub literals : List (List ℕ × Target)
literals =
    literal (codes "/__heartbeat__") Get R.Heartbeat
    ∷ literal (codes "/__lbheartbeat__") Get R.Alive
    ∷ literal (codes "/__version__") Get R.Version
    ∷ literal (codes "/api/PriorityJob/") Post R.PriorityJob
    ∷ literal (codes "/api/ProcessedCrash/") Get R.ProcessedCrash
    ∷ literal (codes "/api/RawCrash/") Get R.RawCrash
    ∷ literal (codes "/api/RawDump/") Get R.RawDump
    ∷ literal (codes "/api/Reprocessing/") Post R.Reprocessing
    ∷ literal (codes "/api/Stack/") Get R.Stack
    ∷ literal (codes "/api/SuperSearch/") Get R.SuperSearch
    ∷ literal (codes "/api/SuperSearchFields/") Get R.SuperSearchFields
    ∷ literal (codes "/api/TopCrashers/") Get R.Tops
    ∷ literal (codes "/api/Withdrawal/") Post R.Withdrawal
    ∷ literal (codes "/control/counts") Get R.Counts
    ∷ literal (codes "/control/drain") Post R.Drain
    ∷ literal (codes "/control/stop") Post R.Stop
    ∷ literal (codes "/control/turn") Post R.Turn
    ∷ literal (codes "/search/") Get R.Search
    ∷ literal (codes "/submit") Post R.Submit
    ∷ literal (codes "/topcrashers/") Get R.TopsPage
    ∷ literal (codes "/") Get R.Front
    ∷ []

-- the target of a path in such a table
abbrev pub target_in : List (List ℕ × Target) → List ℕ → Option Target
target_in [] path = None
target_in (l ∷ rest) path = if bytes_eq l.0 path then Some l.1 else target_in rest path

-- the target of a literal path
abbrev pub literal_target : List ℕ → Option Target
literal_target path = target_in literals path

-- what a report's path begins with
abbrev pub report_front : List ℕ
report_front = codes "/report/index/"

-- its length
abbrev pub front_length : ℕ
front_length = 14

-- `/`
abbrev pub slash : ℕ
slash = 47

abbrev pub is_slash : ℕ → Bool
is_slash b = b == slash

-- what stands behind that front, where it is at least one byte and no further `/`
abbrev pub report_id : List ℕ → Option (List ℕ)
report_id path =
    if bytes_eq (take front_length path) report_front
    && (nat_lt front_length (length path) && not (list_any is_slash (drop front_length path)))
    then Some (drop front_length path) else None

-- the target of a path: a report's, or a literal one
abbrev pub report_or : Option (List ℕ) → Option Target → Option Target
report_or (Some id) other = to Get (R.Report id)
report_or None other = other

abbrev pub target_of : List ℕ → Option Target
target_of path = report_or (report_id path) (literal_target path)

abbrev pub is_verb : Verb → Verb → Bool
is_verb Get Get = true
is_verb Post Post = true
is_verb Other Other = true
is_verb Get Post = false
is_verb Get Other = false
is_verb Post Get = false
is_verb Post Other = false
is_verb Other Get = false
is_verb Other Post = false

-- the route of a method at a target
abbrev pub taken_with : Verb → Option Target → Result Route RouteError
taken_with verb None = Err NoRoute
taken_with verb (Some target) = if is_verb verb target.verb then Ok target.route else Err (WrongVerb target.verb)

-- the route of a method and a path, or why there is none
abbrev pub route_of : Verb → List ℕ → Result Route RouteError
route_of verb path = taken_with verb (target_of path)

-- an answer by the routes, or for want of memory
abbrev pub IsRouteOf : Verb → List ℕ → Result Route RouteError → Type 0
IsRouteOf verb path (Ok route) = route_of verb path ≡ Ok route
IsRouteOf verb path (Err NoRoute) = route_of verb path ≡ Err NoRoute
IsRouteOf verb path (Err (WrongVerb allow)) = route_of verb path ≡ Err (WrongVerb allow)
IsRouteOf verb path (Err NoMemory) = ⊤
