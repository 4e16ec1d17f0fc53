-- The rules of the online cache, in the order of 01's 'The live keeper': a start, one request, the close (02's Req 02). Assumes nothing.
use Rattle.std.specs.Prelude.{Bool, true, false, List, ℕ, suc, ◌+◌, ◌-◌, ◌*◌, min, leb, eqb, get_or, replicate}
use Rattle.base.specs.Choice.{pick, both, either}
use Rattle.base.specs.Sets.{has}
use Rattle.base.specs.Lists.{build}
use Rattle.prices.specs.declared.Prices.{Prices}
use Rattle.prices.specs.Prices.{priced, prices_of, window}
use Rattle.request_log.specs.declared.Header.{Header}
use Rattle.online.specs.declared.Cache.{Cache}
use Rattle.online.specs.Servers.{across, set_of}

-- ---- what a state says

-- the window of its prices
unfoldable pub window_of : Cache → ℕ
window_of c = window c.prices

-- a copy stands at server y: y is in the word
unfoldable pub copy_at : Cache → ℕ → Bool
copy_at c y = has c.holders y

-- its last use (01: use second)
unfoldable pub use_at : Cache → ℕ → ℕ
use_at c y = get_or c.last_use y 0

-- ---- a start

-- the prices of the class, the file's id, the copy at home, last use 0, home as last server, last second 0, no requests, transfers or held seconds, not closed
unfoldable pub fresh : List Prices → Header → Cache
fresh table h =
    record {
      prices = prices_of table h.«class»;
      id = h.id;
      server_count = h.server_count;
      last = h.home;
      second = 0;
      last_use = build 64 (λ y. 0);
      holders = set_of 64 (λ y. eqb y h.home);
      requests = 0;
      transfers = 0;
      held = 0;
      closed = false;
    }

-- the state of a refused start
unfoldable pub zeros : Cache
zeros =
    record {
      prices = priced 0 0;
      id = replicate 16 0;
      server_count = 0;
      last = 0;
      second = 0;
      last_use = build 64 (λ y. 0);
      holders = 0;
      requests = 0;
      transfers = 0;
      held = 0;
      closed = false;
    }

-- ---- a request at second τ and server x, none between it and the last one

-- the copy in the word at y has a use at most one window before τ
unfoldable pub lasts : Cache → ℕ → ℕ → Bool
lasts c τ y = both (copy_at c y) (leb τ (use_at c y + window_of c))

-- the request is K: its server is the last one, or the copy there has a use at most one window earlier; else it is S
unfoldable pub kept : Cache → ℕ → ℕ → Bool
kept c τ x = either (eqb x c.last) (lasts c τ x)

-- it uses the copy at y: at its own server, and, if it is S, at the last server, from which it is sent
unfoldable pub uses : Cache → ℕ → ℕ → ℕ → Bool
uses c τ x y = either (eqb y x) (pick (kept c τ x) false (eqb y c.last))

-- a copy stands at y after it: one that it uses, or one that has not expired (a copy at its last second still stands)
unfoldable pub stands : Cache → ℕ → ℕ → ℕ → Bool
stands c τ x y = either (uses c τ x y) (lasts c τ y)

-- the last use of y after it: τ if it uses y, as it was if a copy stands, else 0
unfoldable pub next_use : Cache → ℕ → ℕ → ℕ → ℕ
next_use c τ x y = pick (uses c τ x y) τ (pick (stands c τ x y) (use_at c y) 0)

-- the seconds that y held since the last request: the last server up to τ, any other up to its last use plus the window
unfoldable pub seconds : Cache → ℕ → ℕ → ℕ
seconds c τ y =
    pick (eqb y c.last) (τ - c.second) (pick (copy_at c y) (min τ (use_at c y + window_of c) - c.second) 0)

-- the next state
unfoldable pub accept : Cache → ℕ → ℕ → Cache
accept c τ x =
    record {
      prices = c.prices;
      id = c.id;
      server_count = c.server_count;
      last = x;
      second = τ;
      last_use = build 64 (next_use c τ x);
      holders = set_of 64 (stands c τ x);
      requests = suc c.requests;
      transfers = pick (kept c τ x) c.transfers (suc c.transfers);
      held = c.held + across 64 (seconds c τ);
      closed = c.closed;
    }

-- ---- the running cost and the close

-- the running cost (01: running bill): all holding up to the last request, and all transfers
unfoldable pub running : Cache → ℕ
running c = c.prices.hold * c.held + c.prices.transfer * c.transfers

-- what is left of the window of the copy at y when the last request has been served: its last use plus the window, less the last second; 0 where no
-- copy stands
unfoldable pub remaining : Cache → ℕ → ℕ
remaining c y = pick (copy_at c y) (use_at c y + window_of c - c.second) 0

-- the closing cost (02: closing bill): the running cost, and the holding of each standing copy to its end
unfoldable pub closing : Cache → ℕ
closing c = running c + c.prices.hold * across 64 (remaining c)

-- the same state, now closed
unfoldable pub shut : Cache → Cache
shut c =
    record {
      prices = c.prices;
      id = c.id;
      server_count = c.server_count;
      last = c.last;
      second = c.second;
      last_use = c.last_use;
      holders = c.holders;
      requests = c.requests;
      transfers = c.transfers;
      held = c.held;
      closed = true;
    }
