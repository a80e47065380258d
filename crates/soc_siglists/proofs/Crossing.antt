-- Lists and their patterns may be shared by threads. A search that goes down through all of it at once runs out of steps.
use denote.Param.Send.{IsSync, sendable}
use Rattle.std.proofs.Crossing.{crosses}
use Rattle.std.proofs.MapsCrossing as maps
use Rattle.regex_dfa.proofs.dfa.Dfa.TheSendSync as dfa
use Rattle.soc_base.proofs.text.Text.TheSendSync as text
use Rattle.soc_siglists.specs.contracts.led.LedPattern as LedPattern
use Rattle.soc_siglists.specs.contracts.patterns.Patterns as Patterns
use Rattle.soc_siglists.specs.contracts.lists.Lists as Lists

led : IsSync LedPattern.the_row
led = search (sendable, crosses, maps.crosses, dfa.the_field_sync, text.the_sync) depth 20 fits 4000

patterns : IsSync Patterns.the_field.row
patterns = let l = led in search (sendable, crosses, maps.crosses, text.the_sync) depth 20 fits 4000

pub lists : IsSync Lists.the_field.row
lists = let p = patterns in search (sendable, crosses) depth 20 fits 4000
