-- Tickets.
use Rattle.std.specs.Prelude.{ℕ, cond, nat_lt}
use Rattle.book.specs.declared.tickets.Ticket.{Ticket}
use Rattle.book.specs.declared.tickets.Ticket.TheVariants.{Open, Full}

-- the station of a ticket
abbrev pub station_of : Ticket → ℕ
station_of (Open t) = t.station
station_of (Full t) = t.station

-- the ticket that fill hands out: the open one of the same station, or a full one when the next partner is n
abbrev pub ticket_after : ℕ → ℕ → ℕ → Ticket
ticket_after n next t = cond (nat_lt next n) (Open (record { station = t })) (Full (record { station = t }))
