-- What both outputs were handed, one after another.
use Rattle.std.proofs.Common.{ℕ, List, [], ◌++◌, subst, append-nil}
use Rattle.bz_devices.specs.Buffer.{took_nothing_lem, took_more_lem}
use Rattle.bz_program.specs.Console.{Shows}
use Rattle.bz_program.specs.declared.console.Console.{Console}

module _ {O E : Type 0} (out_took : O → List ℕ → O → Type 0) (err_took : E → List ℕ → E → Type 0) where
  pub shows_nothing : ((s : O) → out_took s [] s) → ((s : E) → err_took s [] s) → (console : Console O E) → Shows out_took err_took console [] [] console
  shows_nothing out_nothing err_nothing console = record {
    out = took_nothing_lem out_took out_nothing console.out;
    err = took_nothing_lem err_took err_nothing console.err;
  }

  module _ (out_more : (a b c : O) (xs ys : List ℕ) → out_took a xs b → out_took b ys c → out_took a (xs ++ ys) c)
      (err_more : (a b c : E) (xs ys : List ℕ) → err_took a xs b → err_took b ys c → err_took a (xs ++ ys) c) where
    pub shows_more : (a b c : Console O E) (shown told more more_told : List ℕ) → Shows out_took err_took a shown told b → Shows out_took err_took b more more_told c
        → Shows out_took err_took a (shown ++ more) (told ++ more_told) c
    shows_more a b c shown told more more_told p q = record {
      out = took_more_lem out_took out_more a.out b.out c.out shown more p.out q.out;
      err = took_more_lem err_took err_more a.err b.err c.err told more_told p.err q.err;
    }

    -- and then a message
    pub shows_told : (a b c : Console O E) (shown told more_told : List ℕ) → Shows out_took err_took a shown told b → Shows out_took err_took b [] more_told c
        → Shows out_took err_took a shown (told ++ more_told) c
    shows_told a b c shown told more_told p q =
        subst (λ bytes. Shows out_took err_took a bytes (told ++ more_told) c) (append-nil shown) (shows_more a b c shown told [] more_told p q)

    -- and then nothing more
    pub shows_all : (a b c : Console O E) (shown told : List ℕ) → Shows out_took err_took a shown told b → Shows out_took err_took b [] [] c
        → Shows out_took err_took a shown told c
    shows_all a b c shown told p q = subst (λ bytes. Shows out_took err_took a shown bytes c) (append-nil told) (shows_told a b c shown told [] p q)
