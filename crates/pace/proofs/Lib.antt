mod Service
mod Listed
