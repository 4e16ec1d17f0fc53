-- The holders over each gap as words, from the last gap to the first. Assumes nothing.
use Rattle.std.specs.Prelude.{Bool, List, ℕ, zero, suc, pred, ◌-◌, leb, ltb, eqb, get_or}
use Rattle.base.specs.Choice.{pick, both}
use Rattle.base.specs.Sets.{put, cut}
use Rattle.model.specs.Marking.{Mark, K, S, U, keeps, loads}

-- the set with server x; no word has a server from 64 on
unfoldable pub joined : ℕ → ℕ → ℕ
joined w x = pick (ltb x 64) (put w x) w

-- the servers kept over a gap, from those kept over the next one: without the server of the request between them, and with it where that request is K
unfoldable pub kept_step : ℕ → ℕ → Bool → ℕ
kept_step w x kept = pick kept (joined (cut w x) x) (cut w x)

-- the servers whose K span lies over gap k, of the d requests from k on
unfoldable pub kept_word : (ℕ → ℕ) → (ℕ → Mark) → ℕ → ℕ → ℕ
kept_word s m k zero = 0
kept_word s m k (suc d) = kept_step (kept_word s m (suc k) d) (s k) (keeps (m k))

-- the servers of a word, or one server where it has none and the gap is not before a U
unfoldable pub or_server : ℕ → ℕ → Bool → ℕ
or_server w x loaded = pick (eqb w 0) (pick loaded 0 (joined 0 x)) w

-- the holders over gap k of n: the servers kept over it, or the server of the request before it, unless the request after it is U
unfoldable pub holders_word : (ℕ → ℕ) → (ℕ → Mark) → ℕ → ℕ → ℕ
holders_word s m n k = or_server (kept_word s m k (suc n - k)) (s (pred k)) (loads (m k))

-- the same for gaps 1 to n, and no holder elsewhere
unfoldable pub gap_word : (ℕ → ℕ) → (ℕ → Mark) → ℕ → ℕ → ℕ
gap_word s m n k = pick (both (ltb 0 k) (leb k n)) (holders_word s m n k) 0

-- the mark that a letter spells: K for 75, U for 85, S for any other
unfoldable pub spelled : ℕ → Mark
spelled x = pick (eqb x 75) K (pick (eqb x 85) U S)

-- the marking that letters spell, one for each request from request 1 on
unfoldable pub marking : List ℕ → ℕ → Mark
marking letters i = spelled (get_or letters (pred i) 0)
