use Rattle.std.proofs.Common.{[], ◌∷◌, None, Some, ap, arith, codes, false, option_map, refl, subst, sym, true}
use Rattle.xp_limits.specs.Limits.{IsNumber}
use Rattle.clap.proofs.OnLiterals.{clap_on_literals}
use Rattle.xp_arguments.specs.Commands.{IsLive, IsNamed, IsOneForm, directory_of, file_of}
use Rattle.xp_arguments.specs.NamedPaths.{AreTables}
use Rattle.xp_arguments.proofs.laws.errands_can_be_asked_for.Goals as goal

none_named : AreTables [] []
none_named = record { named = refl; once = refl }

pub returns-clause-check : goal.returns-clause-check
unfolding clap_on_literals
returns-clause-check c = record { faultless = refl; asked = record { word = _; rows = _; found_is = refl; subcommand_is = (refl, record { form = refl; depth = (refl, refl); after = refl }); named = refl } }

pub returns-clause-replay : goal.returns-clause-replay
unfolding clap_on_literals
returns-clause-replay c =
    λ order form tables. record {
      faultless = refl;
      asked = record {
        word = _;
        rows = _;
        found_is = refl;
        subcommand_is = (refl, record { form = subst (IsOneForm false false None) (sym form) (refl, refl, refl); tables = subst (AreTables []) (sym tables) none_named });
        named = refl;
      };
    }

pub returns-clause-tables : goal.returns-clause-tables
unfolding clap_on_literals
returns-clause-tables c =
    λ order day night form tables day_name day_path night_name night_path. record {
      faultless = refl;
      asked = record {
        word = _;
        rows = _;
        found_is = refl;
        subcommand_is = (
          refl,
          record {
            form = subst (IsOneForm false false None) (sym form) (refl, refl, refl);
            tables =
                subst (AreTables (codes "d=b" ∷ codes "n=c=d" ∷ [])) (sym tables)
                (record { named = rw (day_name, day_path, night_name, night_path) refl; once = rw (day_name, night_name) refl });
          },
        );
        named = refl;
      };
    }

pub returns-clause-after : goal.returns-clause-after
unfolding clap_on_literals
returns-clause-after c =
    λ order form depth after. record {
      faultless = refl;
      asked = record {
        word = _;
        rows = _;
        found_is = refl;
        subcommand_is = (refl, record { form = rw form refl; depth = rw depth ((refl, refl)); after = after });
        named = refl;
      };
    }

twelve : IsNumber (codes "12") 12
twelve = record { numeral = (omega arith, (omega arith, (omega arith, tt))); value = refl; least = omega arith; most = omega arith }

three : IsNumber (codes "3") 3
three = record { numeral = (omega arith, (omega arith, tt)); value = refl; least = omega arith; most = omega arith }

xp_1 : IsNamed (Some (codes "xp-1")) (Some (codes "xp-1"))
xp_1 = (refl, refl)

pub returns-clause-serve : goal.returns-clause-serve
unfolding clap_on_literals
returns-clause-serve c =
    record {
      faultless = refl;
      asked = record {
        word = _;
        rows = _;
        found_is = refl;
        subcommand_is = (refl, record { limits = record { records_are = refl; turns_are = refl; threads_are = refl }; details = (refl, refl); live = tt; no_live = refl; exchange = tt; trace = (refl, refl); console = refl; quiet = refl; until_eof = refl });
        named = refl;
      };
    }

pub returns-clause-limits : goal.returns-clause-limits
unfolding clap_on_literals
returns-clause-limits c =
    record {
      faultless = refl;
      asked = record {
        word = _;
        rows = _;
        found_is = refl;
        subcommand_is = (refl, record { limits = record { records_are = twelve; turns_are = three; threads_are = refl }; details = (refl, refl); live = tt; no_live = refl; exchange = tt; trace = (refl, refl); console = refl; quiet = refl; until_eof = refl });
        named = refl;
      };
    }

pub returns-clause-details : goal.returns-clause-details
unfolding clap_on_literals
returns-clause-details c =
    λ order file directory live no_live exchange limits trace console quiet until_eof. record {
      faultless = refl;
      asked = record {
        word = _;
        rows = _;
        found_is = refl;
        subcommand_is = (refl, record { limits = rw (limits) (record { records_are = refl; turns_are = refl; threads_are = refl }); details = (file, directory); live = subst (IsLive (Some (codes "c")) (Some (codes "b")) false) (sym live) refl; no_live = no_live; exchange = subst (IsNamed (Some (codes "xp-1"))) (sym exchange) xp_1; trace = rw (trace) ((refl, refl)); console = ap (option_map (λ address. address.now)) console; quiet = quiet; until_eof = until_eof });
        named = refl;
      };
    }

pub returns-clause-directory : goal.returns-clause-directory
unfolding clap_on_literals
returns-clause-directory c =
    λ order file directory live no_live limits exchange trace console quiet until_eof. record {
      faultless = refl;
      asked = record {
        word = _;
        rows = _;
        found_is = refl;
        subcommand_is = (
          refl,
          record {
            limits = rw (limits) (record { records_are = refl; turns_are = refl; threads_are = refl });
            details = (file, directory);
            live = subst (IsLive (Some (codes "c")) (Some (codes "b")) false) (sym live) refl;
            no_live = no_live;
            exchange = subst (IsNamed None) (sym (ap (option_map (λ name. name.now)) exchange)) tt;
            trace = rw (trace) ((refl, refl));
            console = ap (option_map (λ address. address.now)) console;
            quiet = quiet;
            until_eof = until_eof;
          },
        );
        named = refl;
      };
    }

pub returns-clause-trace : goal.returns-clause-trace
unfolding clap_on_literals
returns-clause-trace c =
    λ order trace traced path lines limits details live no_live exchange console quiet until_eof. record {
      faultless = refl;
      asked = record {
        word = _;
        rows = _;
        found_is = refl;
        subcommand_is = (
          refl,
          record {
            limits = rw (limits) (record { records_are = refl; turns_are = refl; threads_are = refl });
            details = (ap file_of details, ap directory_of details);
            live = subst (IsLive None None true) (sym (ap (option_map (λ path. path.now)) live)) tt;
            no_live = no_live;
            exchange = subst (IsNamed None) (sym (ap (option_map (λ name. name.now)) exchange)) tt;
            trace = rw (traced) ((ap Some (sym path), lines));
            console = ap (option_map (λ address. address.now)) console;
            quiet = quiet;
            until_eof = until_eof;
          },
        );
        named = refl;
      };
    }

pub returns-clause-status : goal.returns-clause-status
unfolding clap_on_literals
returns-clause-status c = record { faultless = refl; asked = record { word = _; rows = _; found_is = refl; subcommand_is = (refl, tt); named = refl } }

pub returns-clause-stop : goal.returns-clause-stop
unfolding clap_on_literals
returns-clause-stop c = record { faultless = refl; asked = record { word = _; rows = _; found_is = refl; subcommand_is = (refl, tt); named = refl } }

pub returns-clause-reload : goal.returns-clause-reload
unfolding clap_on_literals
returns-clause-reload c = record { faultless = refl; asked = record { word = _; rows = _; found_is = refl; subcommand_is = (refl, tt); named = refl } }

pub returns-clause-summary : goal.returns-clause-summary
unfolding clap_on_literals
returns-clause-summary c = record { faultless = refl; asked = record { word = _; rows = _; found_is = refl; subcommand_is = (refl, record { form = refl; depth = (refl, refl); after = refl }); named = refl } }

pub returns-clause-serving : goal.returns-clause-serving
unfolding clap_on_literals
returns-clause-serving c = record { faultless = refl; asked = record { word = _; rows = _; found_is = refl; subcommand_is = (refl, record { form = refl; depth = (refl, refl); after = refl }); named = refl } }

pub returns-clause-ports : goal.returns-clause-ports
unfolding clap_on_literals
returns-clause-ports c = record { faultless = refl; asked = record { word = _; rows = _; found_is = refl; subcommand_is = (refl, record { form = refl; depth = refl; after = refl }); named = refl } }

pub returns-clause-words : goal.returns-clause-words
unfolding clap_on_literals
returns-clause-words c =
    λ order form tables. record {
      faultless = refl;
      asked = record {
        word = _;
        rows = _;
        found_is = refl;
        subcommand_is = (refl, record { form = subst (IsOneForm true false None) (sym form) (refl, refl, refl); tables = subst (AreTables []) (sym tables) none_named });
        named = refl;
      };
    }

pub returns-clause-ladder : goal.returns-clause-ladder
unfolding clap_on_literals
returns-clause-ladder c =
    λ order form tables. record {
      faultless = refl;
      asked = record {
        word = _;
        rows = _;
        found_is = refl;
        subcommand_is = (refl, record { form = subst (IsOneForm false true None) (sym form) (refl, refl, refl); tables = subst (AreTables []) (sym tables) none_named });
        named = refl;
      };
    }

pub returns-clause-explain : goal.returns-clause-explain
unfolding clap_on_literals
returns-clause-explain c =
    λ question caller dialled facilities user up busy status. record {
      faultless = refl;
      asked = record {
        word = _;
        rows = _;
        found_is = refl;
        subcommand_is = (
          refl,
          record {
            caller = ap Some caller;
            dialled = ap Some dialled;
            facilities = facilities;
            user = ap (option_map (λ text. text.now)) user;
            up = ap (option_map (λ text. text.now)) up;
            busy = busy;
            status = status;
          },
        );
        named = refl;
      };
    }

pub returns-clause-version : goal.returns-clause-version
unfolding clap_on_literals
returns-clause-version c = refl

pub returns-clause-short_version : goal.returns-clause-short_version
unfolding clap_on_literals
returns-clause-short_version c = refl
